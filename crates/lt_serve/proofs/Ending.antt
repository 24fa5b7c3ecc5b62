-- How a session ends.
use Rattle.std.proofs.Common.{◌≡◌, ℕ, Bool, IsTrue, List, [], ◌∷◌, ◌++◌, length, refl, sym, ◌∙◌, ap, subst, Option, Some, None}
use Rattle.std.specs.List.{flat_map}
use Rattle.std.proofs.lemmas.List.{append-nil}
use Rattle.lt_lang.specs.Lines.{cut_lines}
use Rattle.lt_lang.specs.Parsing.{line_at}
use Rattle.lt_lang.proofs.Exactly.{line_spelled}
use Rattle.lt_reply.specs.Texts.{reply_text_of, client_line, end_line}
use Rattle.lt_command.specs.declared.command.Line.{Line}
use Rattle.lt_command.specs.declared.command.Line.TheVariants.{Skip, Bad, Command as CommandLine}
use Rattle.lt_command.specs.declared.reply.Reply.{Reply}
use Rattle.lt_model.specs.History.{Opening, History}
use Rattle.lt_model.specs.Readings.{next, kept}
use Rattle.lt_model.specs.Session.{Client, Block, Mark, LinesAnswered, no_workers, IsSession, clients_of}
use Rattle.lt_model.specs.Growing.{SoFar, seen_after_all}
use Rattle.lt_model.proofs.Growth.{IsSession-nobody, IsSession-one}
use Rattle.lt_serve.specs.Session.{lines_of, AreSpelled, client_of, MayAnswer, AllMayAnswer, IsBuilt, blocks_text}
use Rattle.lt_serve.specs.Growing.{Meter, owned, asks_built, block_head, replies_of, HasAnswered, ReadSoFar, IsAnswered}
use Rattle.lt_serve.proofs.Telling.{owned_by_none, clients_of-none, clients_of-ours}
use Rattle.lt_serve.proofs.Looked.{all_cut}

-- ---- the line at the front of what is left

MayAnswer-built : (client : Option (List ℕ)) (line : Line) → MayAnswer client line → IsTrue (asks_built line)
MayAnswer-built client Skip may = refl
MayAnswer-built client (Bad name at) may = refl
MayAnswer-built client (CommandLine name moment command) may = may.1

inner : (client : Option (List ℕ)) (before : List Line) (line : Line) (after : List Line) → AllMayAnswer client (before ++ line ∷ after) → MayAnswer client line
inner client [] line after all = all.0
inner client (first ∷ before) line after all = inner client before line after all.1

pub next_is_built : (input rest after : List ℕ) (lines : List Line) (bytes : List ℕ) (line : Line) → IsBuilt input → lines_of input ≡ lines ++ line ∷ lines_of after → IsTrue (asks_built line)
next_is_built input rest after lines bytes line built all =
    MayAnswer-built (client_of (lines_of input)) line (inner (client_of (lines_of input)) lines line (lines_of after) (subst (AllMayAnswer (client_of (lines_of input))) all built))

-- ---- all lines are answered

nothing_answered : (clock : ℕ → Type 0) (h : History) (replies : List Reply) (marks : List Mark) → LinesAnswered clock h 0 [] replies marks → (replies ≡ []) × (marks ≡ [])
nothing_answered clock h [] [] answered = (refl, refl)
nothing_answered clock h [] (mark ∷ marks) answered = absurd answered
nothing_answered clock h (reply ∷ replies) [] answered = absurd answered
nothing_answered clock h (reply ∷ replies) (mark ∷ marks) answered = absurd answered

-- the session of the lines so far, its blocks' text and its replies
record IsWhole (clock : ℕ → Type 0) (client : Option (List ℕ)) (lines : List Line) (replies : List Reply) (h : History) : Type 0 where
  blocks : List Block
  session : IsSession clock no_workers 0 (clients_of lines) blocks h
  written : block_head client ++ flat_map reply_text_of replies ≡ blocks_text blocks
  all : replies_of blocks ≡ replies

session_of_nobody : (clock : ℕ → Type 0) (lines : List Line) (replies : List Reply) (h : History) → AllMayAnswer None lines → SoFar clock 0 (owned lines) replies h → IsWhole clock None lines replies h
session_of_nobody clock lines replies h all so_far =
    let own : SoFar clock 0 [] replies h = subst (λ (own : List Line). SoFar clock 0 own replies h) (owned_by_none lines all) so_far in
    let nothing = nothing_answered clock h replies own.marks own.answered in
    let none : length h.entries ≡ 0 = sym own.all_seen ∙ ap (seen_after_all 0) nothing.1 in
    record {
      blocks = [];
      session = subst (λ (clients : List Client). IsSession clock no_workers 0 clients [] h) (sym (clients_of-none lines all)) (subst (λ (began : ℕ). IsSession clock no_workers began [] [] h) none (IsSession-nobody clock no_workers h own.legal));
      written = ap (flat_map reply_text_of) nothing.0;
      all = sym nothing.0;
    }

session_of_one : (clock : ℕ → Type 0) (name : List ℕ) (lines : List Line) (replies : List Reply) (h : History) → client_of lines ≡ Some name → AllMayAnswer (Some name) lines → SoFar clock 0 (owned lines) replies h
    → IsWhole clock (Some name) lines replies h
session_of_one clock name lines replies h whose all so_far = record {
  blocks = record { name = name; replies = replies } ∷ [];
  session = subst (λ (clients : List Client). IsSession clock no_workers 0 clients (record { name = name; replies = replies } ∷ []) h) (sym (clients_of-ours name lines whose all)) (IsSession-one clock no_workers 0 name (owned lines) replies h so_far);
  written = sym (append-nil (client_line name ++ flat_map reply_text_of replies));
  all = append-nil replies;
}

session_of : (clock : ℕ → Type 0) (client : Option (List ℕ)) (lines : List Line) (replies : List Reply) (h : History) → client ≡ client_of lines → AllMayAnswer client lines → SoFar clock 0 (owned lines) replies h → IsWhole clock client lines replies h
session_of clock None lines replies h whose all so_far = session_of_nobody clock lines replies h all so_far
session_of clock (Some name) lines replies h whose all so_far = session_of_one clock name lines replies h (sym whose) all so_far

all_spelled : (cut : List (List ℕ)) → AreSpelled cut
all_spelled [] = tt
all_spelled (bytes ∷ others) = (line_spelled bytes (line_at bytes) refl, all_spelled others)

pub IsAnswered-ended : (honest : Bool) (clock : ℕ → Type 0) (opening held : Opening) (before now : Meter) (client : Option (List ℕ)) (input rest text whole : List ℕ) → ReadSoFar honest clock opening held before now client input rest text → rest ≡ []
    → IsBuilt input → client ≡ client_of (lines_of input) → whole ≡ text ++ end_line held.next held.kept → IsAnswered honest clock opening held before now input whole
IsAnswered-ended honest clock opening held before now client input rest text whole so_far ended built whose written =
    let answered = so_far.answered in
    let all : so_far.lines ≡ lines_of input = sym (all_cut input rest so_far.lines so_far.cut ended) in
    let session = session_of clock client (lines_of input) so_far.replies so_far.history whose (subst (λ (own : Option (List ℕ)). AllMayAnswer own (lines_of input)) (sym whose) built)
    (subst (λ (lines : List Line). SoFar clock 0 (owned lines) so_far.replies so_far.history) all answered.so_far) in
    record {
      whole = record {
        spelled = all_spelled (cut_lines input);
        blocks = session.blocks;
        history = so_far.history;
        opened = answered.opened;
        session = session.session;
        unflushed = answered.unflushed;
        written = written
            ∙ ap (λ (o : Opening). text ++ end_line o.next o.kept) (sym answered.stands)
            ∙ ap (λ (blocks : List ℕ). blocks ++ end_line (next so_far.history) (kept so_far.history)) (so_far.written ∙ session.written);
      };
      answered = subst (λ (replies : List Reply). HasAnswered honest clock opening held before now (owned (lines_of input)) replies so_far.history) (sym session.all)
          (subst (λ (lines : List Line). HasAnswered honest clock opening held before now (owned lines) so_far.replies so_far.history) all answered);
    }
