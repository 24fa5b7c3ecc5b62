-- How a session grows by a line.
use Rattle.std.proofs.Common.{◌≡◌, ◌+◌, ◌≤◌, ℕ, Bool, IsTrue, List, [], ◌∷◌, ◌++◌, refl, sym, ◌∙◌, ap, subst, inl, inr, ⊎_elim, Option, Some, None, append_assoc, arith}
use Rattle.std.specs.List.{flat_map, AllByRecursion}
use Rattle.std.proofs.lemmas.List.Elements.{All-nil, All-cons, All-append}
use Rattle.std.proofs.lemmas.List.{append-nil}
use Rattle.lt_io.specs.Device.{Counts}
use Rattle.lt_io.specs.Directory.{moment}
use Rattle.lt_io.specs.Steps.{Steps, IsPreorder}
use Rattle.lt_io.proofs.Chains.{Steps-none, Steps-join, Steps-weaken}
use Rattle.lt_lang.specs.Lines.{cut_lines}
use Rattle.lt_lang.specs.Parsing.{line_at}
use Rattle.lt_reply.specs.Texts.{reply_text_of}
use Rattle.lt_command.specs.declared.command.Line.{Line}
use Rattle.lt_command.specs.declared.command.Line.TheVariants.{Skip, Bad, Command as CommandLine}
use Rattle.lt_command.specs.declared.reply.Reply.{Reply}
use Rattle.lt_command.specs.declared.reply.Reply.TheVariants.{Fault}
use Rattle.lt_model.specs.History.{Opening, History, extended}
use Rattle.lt_model.specs.Legal.{IsLegal}
use Rattle.lt_model.specs.Growing.{SoFar}
use Rattle.lt_model.proofs.Growth.{SoFar-nothing, SoFar-more, SoFar-bad}
use Rattle.lt_plain.specs.Table.{StandsFor, IsUndamaged}
use Rattle.lt_plain.proofs.Steps.{StandsFor-opening}
use Rattle.lt_serve.specs.Session.{lines_of, IsRowOrChange}
use Rattle.lt_serve.specs.Kept.{Frame, frame_of, Told, told_of, told_by_line, AllTell, Renews}
use Rattle.lt_serve.specs.ByLine.{LineEnd, begun_at, last_end}
use Rattle.lt_serve.specs.Growing.{Meter, owned, asks_built, block_head, numbers_used, IsSpentFrom, UsesNumbers, replies_in, shown, AnswersLine, Stays, HasAnswered, AnswersFront, ReadSoFar}
use Rattle.lt_serve.proofs.Telling.{owned-more}
use Rattle.lt_serve.proofs.Faults.{faults_more}
use Rattle.lt_serve.proofs.Adding.{built_adds, all_plain}
use Rattle.lt_serve.proofs.Looked.{next_cut}
use Rattle.lt_serve.proofs.Renewing.{lends_none, lends_join}
use Rattle.lt_serve.proofs.LineByLine.{TellsSoFar-more}

pub staying : (frame : Frame) → IsPreorder (Stays frame)
staying frame = record {
  itself = λ state. record { files = refl; old_or_new = λ d was. inl was };
  further = λ before state after first then. record {
    files = then.files ∙ first.files;
    old_or_new = λ d is. ⊎_elim (λ was. first.old_or_new d was) (λ new. inr new) (then.old_or_new d is);
  };
}

-- no line is answered yet
pub HasAnswered-nothing : (honest : Bool) (clock : ℕ → Type 0) (opening : Opening) (began : Meter) → IsLegal (record { opening = opening; entries = [] })
    → HasAnswered honest clock opening opening began began [] [] (record { opening = opening; entries = [] })
HasAnswered-nothing honest clock opening began legal = record {
  opened = refl;
  stands = StandsFor-opening opening;
  so_far = SoFar-nothing clock (record { opening = opening; entries = [] }) legal;
  unflushed = tt;
  frame = refl;
  faults = omega arith;
  undamaged = All-nil IsUndamaged;
  numbers = omega arith;
  lends = lends_none began.next_file began.directory;
  any_moment = λ h. Steps-none (Stays (frame_of opening)) (staying (frame_of opening)) began.directory;
  tells = λ h all. record { ends = []; by_line = tt; moment_is = refl; versions = refl; all_tell = all };
}

uses_more : (first free left : ℕ) (lines : List Line) (replies : List Reply) (line : Line) (reply : Reply) → UsesNumbers first lines replies free → IsSpentFrom free line reply → left ≤ free + numbers_used line reply
    → UsesNumbers first (lines ++ line ∷ []) (replies ++ reply ∷ []) left
uses_more first free left [] [] line reply so_far spent used = (λ asks is. omega (arith, so_far, spent asks is), omega (arith, so_far, used))
uses_more first free left (before ∷ lines) (said ∷ replies) line reply so_far spent used = (so_far.0, uses_more (first + numbers_used before said) free left lines replies line reply so_far.1 spent used)
uses_more first free left [] (said ∷ replies) line reply so_far spent used = absurd so_far
uses_more first free left (before ∷ lines) [] line reply so_far spent used = absurd so_far

of_reply : (before now : ℕ) (reply : Reply) → Counts before now (Some reply ≡ Some Fault) → Counts before now (reply ≡ Fault)
of_reply before now reply counts = record { later = counts.later; failed = λ is. counts.failed (ap Some is) }

-- one line more, with its reply
answered_more : (honest : Bool) (clock : ℕ → Type 0) (opening held new : Opening) (before now next : Meter) (lines : List Line) (replies : List Reply) (h longer : History) (line : Line) (reply : Reply)
    → HasAnswered honest clock opening held before now lines replies h → AnswersLine honest clock held new now next line (Some reply)
    → longer.opening ≡ opening → StandsFor new longer → SoFar clock 0 (lines ++ line ∷ []) (replies ++ reply ∷ []) longer → AllByRecursion IsRowOrChange longer.entries
    → HasAnswered honest clock opening new before next (lines ++ line ∷ []) (replies ++ reply ∷ []) longer
answered_more honest clock opening held new before now next lines replies h longer line reply answered answers opened stands so_far unflushed =
    let frame = frame_of opening in
    let at_first : Told = told_of held.schemas in
    let kept = answers.kept at_first refl in
    let later : Told = told_by_line line reply at_first in
    record {
      opened = opened;
      stands = stands;
      so_far = so_far;
      unflushed = unflushed;
      frame = kept.frame ∙ answered.frame;
      faults = faults_more before.faults now.faults next.faults replies reply answered.faults (of_reply now.faults next.faults reply answers.faults);
      undamaged = All-append IsUndamaged replies (reply ∷ []) answered.undamaged (All-cons IsUndamaged reply [] answers.undamaged (All-nil IsUndamaged));
      numbers = uses_more before.next_file now.next_file next.next_file lines replies line reply answered.numbers answers.spent answers.used;
      lends = lends_join before.next_file now.next_file next.next_file before.directory now.directory next.directory answered.lends answers.lends;
      any_moment = λ h. Steps-join (Stays frame) (staying frame) before.directory now.directory next.directory (answered.any_moment h)
          (Steps-weaken (Renews frame later) (Stays frame)
          (λ old after renews. record { files = renews.files; old_or_new = λ d is. ⊎_elim (λ was. inl was) (λ made. inr (later, made)) (renews.old_or_new d is) })
          now.directory next.directory (subst (λ (frame : Frame). Steps (Renews frame later) now.directory next.directory) answered.frame (kept.any_moment h)));
      tells = λ h all.
          let first : LineEnd = begun_at (moment before.directory) opening.schemas in
          let told_so = answered.tells h all in
          let told = (last_end first told_so.ends).told in
          let stays = answers.kept told told_so.versions in
          TellsSoFar-more frame first held new lines replies now.directory next.directory line reply answered.frame told_so
          (subst (λ (frame : Frame). Steps (Renews frame (told_by_line line reply told)) now.directory next.directory) answered.frame (stays.any_moment h))
          stays.versions
          (subst (λ (frame : Frame). AllTell frame (told_by_line line reply told) next.directory.now) answered.frame
          (stays.all_tell h (subst (λ (frame : Frame). AllTell frame told now.directory.now) (sym answered.frame) told_so.all_tell)));
    }

abbrev Grown : Bool → (ℕ → Type 0) → Opening → Opening → Meter → Meter → List Line → List Reply → Type 0
Grown honest clock opening held before now lines replies = (h : History) × HasAnswered honest clock opening held before now lines replies h

-- one line more, also one that belongs to nobody
HasAnswered-more : (honest : Bool) (clock : ℕ → Type 0) (opening held new : Opening) (before now next : Meter) (lines : List Line) (replies : List Reply) (h : History) (line : Line) (reply : Option Reply)
    → IsTrue (asks_built line) → HasAnswered honest clock opening held before now lines replies h → AnswersLine honest clock held new now next line reply
    → Grown honest clock opening new before next (lines ++ owned (line ∷ [])) (replies ++ replies_in reply)
HasAnswered-more honest clock opening held new before now next lines replies h Skip None built answered answers =
    let same : HasAnswered honest clock opening new before next lines replies h =
    subst (λ (m : Meter). HasAnswered honest clock opening new before m lines replies h) (sym answers.unused)
    (subst (λ (o : Opening). HasAnswered honest clock opening o before now lines replies h) (sym answers.replies) answered) in (
      h,
      subst (λ (own : List Line). HasAnswered honest clock opening new before next own (replies ++ []) h) (sym (append-nil lines))
          (subst (λ (rs : List Reply). HasAnswered honest clock opening new before next lines rs h) (sym (append-nil replies)) same),
    )
HasAnswered-more honest clock opening held new before now next lines replies h (Bad name at) (Some reply) built answered answers = (
  h,
  answered_more honest clock opening held new before now next lines replies h h (Bad name at) reply answered answers answered.opened
      (subst (λ (o : Opening). StandsFor o h) (sym answers.replies.1) answered.stands)
      (subst (λ (r : Reply). SoFar clock 0 (lines ++ Bad name at ∷ []) (replies ++ r ∷ []) h) (sym answers.replies.0) (SoFar-bad clock 0 lines replies h name at answered.so_far))
      answered.unflushed,
)
HasAnswered-more honest clock opening held new before now next lines replies h (CommandLine name moment command) (Some reply) built answered answers =
    let said = answers.replies in
    let done = said.2 h answered.so_far.legal answered.stands in (
      extended h done.added,
      answered_more honest clock opening held new before now next lines replies h (extended h done.added) (CommandLine name moment command) reply answered answers answered.opened done.stands
          (SoFar-more clock 0 lines replies h name moment said.0 command reply done.added answered.so_far said.1 done.step done.legal)
          (all_plain h.entries done.added answered.unflushed (built_adds h h said.0 command reply done.added built done.step)),
    )
HasAnswered-more honest clock opening held new before now next lines replies h Skip (Some reply) built answered answers = absurd answers.replies
HasAnswered-more honest clock opening held new before now next lines replies h (Bad name at) None built answered answers = absurd answers.replies
HasAnswered-more honest clock opening held new before now next lines replies h (CommandLine name moment command) None built answered answers = absurd answers.replies

flat_map-more : (replies : List Reply) (reply : Reply) → flat_map reply_text_of (replies ++ reply ∷ []) ≡ flat_map reply_text_of replies ++ reply_text_of reply
flat_map-more [] reply = append-nil (reply_text_of reply)
flat_map-more (first ∷ replies) reply = ap (λ rest. reply_text_of first ++ rest) (flat_map-more replies reply) ∙ sym (append_assoc (reply_text_of first) (flat_map reply_text_of replies) (reply_text_of reply))

texts_more : (replies : List Reply) (reply : Option Reply) → flat_map reply_text_of (replies ++ replies_in reply) ≡ flat_map reply_text_of replies ++ shown reply
texts_more replies None = ap (flat_map reply_text_of) (append-nil replies) ∙ sym (append-nil (flat_map reply_text_of replies))
texts_more replies (Some reply) = flat_map-more replies reply

-- ---- the input

module _ (honest : Bool) (clock : ℕ → Type 0) (opening : Opening) (before : Meter) (client : Option (List ℕ)) (input : List ℕ) where
  pub ReadSoFar-begin : (text : List ℕ) → IsLegal (record { opening = opening; entries = [] }) → text ≡ block_head client → ReadSoFar honest clock opening opening before before client input input text
  ReadSoFar-begin text legal written = record {
    lines = [];
    cut = refl;
    replies = [];
    history = record { opening = opening; entries = [] };
    answered = HasAnswered-nothing honest clock opening before legal;
    written = written ∙ sym (append-nil (block_head client));
  }

  pub front_so_far : (held : Opening) (now : Meter) (rest text : List ℕ) → ReadSoFar honest clock opening held before now client input rest text → AnswersFront honest clock opening held before now input
  front_so_far held now rest text so_far = record { lines = so_far.lines; others = lines_of rest; front = so_far.cut; replies = so_far.replies; history = so_far.history; answered = so_far.answered }

  -- nothing was read
  pub nothing_yet : IsLegal (record { opening = opening; entries = [] }) → AnswersFront honest clock opening opening before before input
  nothing_yet legal = front_so_far opening before input (block_head client) (ReadSoFar-begin (block_head client) legal refl)

  module _ (held new : Opening) (now next : Meter) (rest after text bytes : List ℕ) (line : Line) (reply : Option Reply) (so_far : ReadSoFar honest clock opening held before now client input rest text)
      (first : cut_lines rest ≡ bytes ∷ cut_lines after) (is : line ≡ line_at bytes) (built : IsTrue (asks_built line)) (answers : AnswersLine honest clock held new now next line reply) where
    grown : Grown honest clock opening new before next (owned (so_far.lines ++ line ∷ [])) (so_far.replies ++ replies_in reply)
    grown = subst (λ (own : List Line). Grown honest clock opening new before next own (so_far.replies ++ replies_in reply)) (sym (owned-more so_far.lines line))
        (HasAnswered-more honest clock opening held new before now next (owned so_far.lines) so_far.replies so_far.history line reply built so_far.answered answers)

    -- the line is answered
    pub front_more : AnswersFront honest clock opening new before next input
    front_more = record {
      lines = so_far.lines ++ line ∷ [];
      others = lines_of after;
      front = next_cut input rest after so_far.lines bytes line so_far.cut first is;
      replies = so_far.replies ++ replies_in reply;
      history = grown.0;
      answered = grown.1;
    }

    -- and its text is appended
    pub ReadSoFar-more : (longer : List ℕ) → longer ≡ text ++ shown reply → ReadSoFar honest clock opening new before next client input after longer
    ReadSoFar-more longer written = record {
      lines = so_far.lines ++ line ∷ [];
      cut = next_cut input rest after so_far.lines bytes line so_far.cut first is;
      replies = so_far.replies ++ replies_in reply;
      history = grown.0;
      answered = grown.1;
      written = written ∙ ap (λ (so_far : List ℕ). so_far ++ shown reply) so_far.written
          ∙ append_assoc (block_head client) (flat_map reply_text_of so_far.replies) (shown reply)
          ∙ ap (λ (rest : List ℕ). block_head client ++ rest) (sym (texts_more so_far.replies reply));
    }
