-- A session that grows by a line, and ends.
use Rattle.std.proofs.Common.{◌≡◌, inl, inr, ℕ, zero, suc, ◌<◌, ◌≤◌, List, [], ◌∷◌, ◌++◌, length, Option, refl, sym, ap, subst, ◌∙◌, arith}
use Rattle.std.specs.Prelude.{Some, None, IsSomeAnd, slice_get}
use Rattle.std.proofs.lemmas.Bool.{cases_lt}
use Rattle.std.proofs.lemmas.List.{length-append, append-nil}
use Rattle.lt_command.specs.declared.command.Command.{Command}
use Rattle.lt_command.specs.declared.command.Line.{Line}
use Rattle.lt_command.specs.declared.command.Line.TheVariants.{Skip, Bad, Command as CommandLine}
use Rattle.lt_command.specs.declared.reply.Reply.{Reply}
use Rattle.lt_command.specs.declared.reply.Reply.TheVariants.{BadLine}
use Rattle.lt_model.specs.History.{Entry, row_entry, bound_entry, schema_entry, kept_entry, History, front, extended}
use Rattle.lt_model.specs.Legal.{IsLegal}
use Rattle.lt_model.specs.Step.{IsStep}
use Rattle.lt_model.specs.Session.{Mark, seen_after, IsMoment, Workers, IsSession, CommandAnswered, LineAnswered, LinesAnswered, AddedByOneLine, HasOrigin}
use Rattle.lt_model.specs.Growing.{LieEndToEnd, seen_after_all, SoFar}
use Rattle.lt_model.proofs.Fronts.{front-extended, front-all, Stand-extended, Stand-at_end}

-- a command's answer stays one while the history grows
pub CommandAnswered-extended : (clock : ℕ → Type 0) (h : History) (more : List Entry) (seen : ℕ) (moment : Option ℕ) (command : Command) (reply : Reply) (mark : Mark)
    → CommandAnswered clock h seen moment command reply mark → CommandAnswered clock (extended h more) seen moment command reply mark
CommandAnswered-extended clock h more seen moment command reply mark answered = record {
  no_earlier = answered.no_earlier;
  in_turn = answered.in_turn;
  stand = Stand-extended h more mark.goes mark.added answered.stand;
  moment_is = answered.moment_is;
  step = let decided : mark.at ≤ length h.entries = omega arith in
      let settled : mark.goes ≤ length h.entries = omega arith in
      rw (front-extended mark.at h more decided, front-extended mark.goes h more settled) answered.step;
}

pub LineAnswered-extended : (clock : ℕ → Type 0) (h : History) (more : List Entry) (seen : ℕ) (line : Line) (reply : Reply) (mark : Mark)
    → LineAnswered clock h seen line reply mark → LineAnswered clock (extended h more) seen line reply mark
LineAnswered-extended clock h more seen Skip reply mark answered = answered
LineAnswered-extended clock h more seen (Bad client at) reply mark answered = answered
LineAnswered-extended clock h more seen (CommandLine client moment command) reply mark answered =
    CommandAnswered-extended clock h more seen moment command reply mark answered

pub LinesAnswered-extended : (clock : ℕ → Type 0) (h : History) (more : List Entry) (seen : ℕ) (lines : List Line) (replies : List Reply) (marks : List Mark)
    → LinesAnswered clock h seen lines replies marks → LinesAnswered clock (extended h more) seen lines replies marks
LinesAnswered-extended clock h more seen [] [] [] answered = answered
LinesAnswered-extended clock h more seen [] [] (mark ∷ marks) answered = answered
LinesAnswered-extended clock h more seen [] (reply ∷ replies) marks answered = answered
LinesAnswered-extended clock h more seen (line ∷ lines) [] marks answered = answered
LinesAnswered-extended clock h more seen (line ∷ lines) (reply ∷ replies) [] answered = answered
LinesAnswered-extended clock h more seen (line ∷ lines) (reply ∷ replies) (mark ∷ marks) answered =
    (LineAnswered-extended clock h more seen line reply mark answered.0, LinesAnswered-extended clock h more (seen_after mark) lines replies marks answered.1)

-- one line more, from where the last one left off
pub LinesAnswered-more : (clock : ℕ → Type 0) (h : History) (seen : ℕ) (lines : List Line) (replies : List Reply) (marks : List Mark) (line : Line) (reply : Reply) (mark : Mark)
    → LinesAnswered clock h seen lines replies marks → LineAnswered clock h (seen_after_all seen marks) line reply mark
    → LinesAnswered clock h seen (lines ++ line ∷ []) (replies ++ reply ∷ []) (marks ++ mark ∷ [])
LinesAnswered-more clock h seen [] [] [] line reply mark answered last = (last, tt)
LinesAnswered-more clock h seen [] [] (first ∷ marks) line reply mark answered last = absurd answered
LinesAnswered-more clock h seen [] (said ∷ replies) marks line reply mark answered last = absurd answered
LinesAnswered-more clock h seen (asked ∷ lines) [] marks line reply mark answered last = absurd answered
LinesAnswered-more clock h seen (asked ∷ lines) (said ∷ replies) [] line reply mark answered last = absurd answered
LinesAnswered-more clock h seen (asked ∷ lines) (said ∷ replies) (first ∷ marks) line reply mark answered last =
    (answered.0, LinesAnswered-more clock h (seen_after first) lines replies marks line reply mark answered.1 last)

LieEndToEnd-more : (seen : ℕ) (marks : List Mark) (mark : Mark) → LieEndToEnd seen marks → mark.goes ≡ seen_after_all seen marks → LieEndToEnd seen (marks ++ mark ∷ [])
LieEndToEnd-more seen [] mark ends goes = (goes, tt)
LieEndToEnd-more seen (first ∷ marks) mark ends goes = (ends.0, LieEndToEnd-more (seen_after first) marks mark ends.1 goes)

seen_after_all-more : (seen : ℕ) (marks : List Mark) (mark : Mark) → seen_after_all seen (marks ++ mark ∷ []) ≡ seen_after mark
seen_after_all-more seen [] mark = refl
seen_after_all-more seen (first ∷ marks) mark = seen_after_all-more (seen_after first) marks mark

seen_after_all-later : (seen : ℕ) (marks : List Mark) → LieEndToEnd seen marks → seen ≤ seen_after_all seen marks
seen_after_all-later seen [] ends = omega arith
seen_after_all-later seen (first ∷ marks) ends = omega (arith, ends.0, seen_after_all-later (seen_after first) marks ends.1)

-- no line yet
pub SoFar-nothing : (clock : ℕ → Type 0) (h : History) → IsLegal h → SoFar clock (length h.entries) [] [] h
SoFar-nothing clock h legal = record { legal = legal; marks = []; answered = tt; end_to_end = tt; all_seen = refl }

-- one line more, that is answered at the end of the history
pub SoFar-answered : (clock : ℕ → Type 0) (began : ℕ) (lines : List Line) (replies : List Reply) (h : History) (line : Line) (reply : Reply) (mark : Mark)
    → SoFar clock began lines replies h → mark.goes ≡ length h.entries → LineAnswered clock (extended h mark.added) (length h.entries) line reply mark → IsLegal (extended h mark.added)
    → SoFar clock began (lines ++ line ∷ []) (replies ++ reply ∷ []) (extended h mark.added)
SoFar-answered clock began lines replies h line reply mark so_far goes answered legal = record {
  legal = legal;
  marks = so_far.marks ++ mark ∷ [];
  answered = LinesAnswered-more clock (extended h mark.added) began lines replies so_far.marks line reply mark
      (LinesAnswered-extended clock h mark.added began lines replies so_far.marks so_far.answered) (rw so_far.all_seen answered);
  end_to_end = LieEndToEnd-more began so_far.marks mark so_far.end_to_end (goes ∙ sym so_far.all_seen);
  all_seen = seen_after_all-more began so_far.marks mark ∙ simp length-append (omega arith);
}

-- one line more, decided at the end of the history
pub SoFar-more : (clock : ℕ → Type 0) (began : ℕ) (lines : List Line) (replies : List Reply) (h : History)
    (client : List ℕ) (moment : Option ℕ) (now : ℕ) (command : Command) (reply : Reply) (added : List Entry)
    → SoFar clock began lines replies h → IsMoment clock moment now → IsStep h h now command reply added → IsLegal (extended h added)
    → SoFar clock began (lines ++ CommandLine client moment command ∷ []) (replies ++ reply ∷ []) (extended h added)
SoFar-more clock began lines replies h client moment now command reply added so_far moment_is step legal =
    let ends = length h.entries in
    let there : ends ≤ length h.entries = omega arith in
    let at_end : front ends (extended h added) ≡ h = front-extended ends h added there ∙ front-all h in
    SoFar-answered clock began lines replies h (CommandLine client moment command) reply (record { at = ends; goes = ends; added = added; now = now }) so_far refl
    (record { no_earlier = there; in_turn = there; stand = Stand-at_end h added; moment_is = moment_is; step = rw at_end step }) legal

-- one line more, which is outside the grammar
pub SoFar-bad : (clock : ℕ → Type 0) (began : ℕ) (lines : List Line) (replies : List Reply) (h : History) (client : List ℕ) (at : ℕ)
    → SoFar clock began lines replies h → SoFar clock began (lines ++ Bad client at ∷ []) (replies ++ BadLine at ∷ []) h
SoFar-bad clock began lines replies h client at so_far =
    let nothing : extended h [] ≡ h = ap (λ (es : List Entry). record h { entries = es }) (append-nil h.entries) in
    let ends = length h.entries in
    subst (λ (g : History). SoFar clock began (lines ++ Bad client at ∷ []) (replies ++ BadLine at ∷ []) g) nothing
    (SoFar-answered clock began lines replies h (Bad client at) (BadLine at) (record { at = ends; goes = ends; added = []; now = 0 }) so_far refl
    (record { reply_is = refl; stays = (refl, refl) }) (rw nothing so_far.legal))

-- a session of nobody
pub IsSession-nobody : (clock : ℕ → Type 0) (workers : Workers) (h : History) → IsLegal h → IsSession clock workers (length h.entries) [] [] h
IsSession-nobody clock workers h legal = record {
  legal = legal;
  began_within = omega arith;
  marks = [];
  answered = tt;
  origins = λ number after before. absurd (omega arith);
}

abbrev IsOf : ℕ → Mark → Type 0
IsOf entry mark = (mark.goes ≤ entry) × (entry < seen_after mark)

-- the one of these lines that added an entry
record OneOf (marks : List Mark) (entry : ℕ) : Type 0 where
  line : ℕ
  adds : IsSomeAnd (slice_get marks line) (IsOf entry)
  no_other : (other : ℕ) → IsSomeAnd (slice_get marks other) (IsOf entry) → other ≡ line

-- what was seen before, none of them added
none-before : (seen : ℕ) (marks : List Mark) (entry line : ℕ) → LieEndToEnd seen marks → entry < seen → IsSomeAnd (slice_get marks line) (IsOf entry) → ⊥
none-before seen [] entry line ends before adds = adds
none-before seen (mark ∷ marks) entry zero ends before adds = omega (arith, ends.0, adds.0)
none-before seen (mark ∷ marks) entry (suc line) ends before adds = none-before (seen_after mark) marks entry line ends.1 (omega (arith, ends.0)) adds

OneOf-first : (seen : ℕ) (mark : Mark) (marks : List Mark) (entry : ℕ) → LieEndToEnd seen (mark ∷ marks) → seen ≤ entry → entry < seen_after mark → OneOf (mark ∷ marks) entry
OneOf-first seen mark marks entry ends after before = record {
  line = zero;
  adds = (omega (arith, ends.0), before);
  no_other = elim [
    | zero ↦ λ adds. refl
    | suc line ↦ λ adds. absurd (none-before (seen_after mark) marks entry line ends.1 before adds)
  ];
}

OneOf-rest : (mark : Mark) (marks : List Mark) (entry : ℕ) → seen_after mark ≤ entry → OneOf marks entry → OneOf (mark ∷ marks) entry
OneOf-rest mark marks entry after one = record {
  line = suc one.line;
  adds = one.adds;
  no_other = elim [
    | zero ↦ λ adds. absurd (omega (arith, adds.1))
    | suc line ↦ λ adds. ap suc (one.no_other line adds)
  ];
}

OneOf-end_to_end : (seen : ℕ) (marks : List Mark) (entry : ℕ) → LieEndToEnd seen marks → seen ≤ entry → entry < seen_after_all seen marks → OneOf marks entry
OneOf-end_to_end seen [] entry ends after before = absurd (omega arith)
OneOf-end_to_end seen (mark ∷ marks) entry ends after before = elim (cases_lt entry (seen_after mark)) [
  | inl less ↦ OneOf-first seen mark marks entry ends after less
  | inr later ↦ OneOf-rest mark marks entry later (OneOf-end_to_end (seen_after mark) marks entry ends.1 later before)
]

AddedByOneLine-one : (marks : List Mark) (entry : ℕ) → OneOf marks entry → AddedByOneLine (marks ∷ []) entry
AddedByOneLine-one marks entry one = record {
  client = zero;
  line = one.line;
  adds = one.adds;
  no_other = elim [
    | zero ↦ λ line adds. (refl, one.no_other line adds)
    | suc client ↦ λ line adds. absurd adds
  ];
}

-- an entry that exactly one line added has its origin
HasOrigin-by_line : (clock : ℕ → Type 0) (workers : Workers) (h : History) (marks : List (List Mark)) (number : ℕ) (e : Option Entry) → AddedByOneLine marks number → HasOrigin clock workers h marks number e
HasOrigin-by_line clock workers h marks number None by_line = tt
HasOrigin-by_line clock workers h marks number (Some (row_entry numbered tablet)) by_line = by_line
HasOrigin-by_line clock workers h marks number (Some (schema_entry change)) by_line = by_line
HasOrigin-by_line clock workers h marks number (Some (bound_entry bound)) by_line = inl by_line
HasOrigin-by_line clock workers h marks number (Some (kept_entry kept)) by_line = inl by_line

-- a session of one client
pub IsSession-one : (clock : ℕ → Type 0) (workers : Workers) (began : ℕ) (name : List ℕ) (lines : List Line) (replies : List Reply) (h : History)
    → SoFar clock began lines replies h
    → IsSession clock workers began (record { name = name; lines = lines } ∷ []) (record { name = name; replies = replies } ∷ []) h
IsSession-one clock workers began name lines replies h so_far = record {
  legal = so_far.legal;
  began_within = omega (arith, seen_after_all-later began so_far.marks so_far.end_to_end);
  marks = so_far.marks ∷ [];
  answered = (refl, so_far.answered, tt);
  origins = λ number after before. HasOrigin-by_line clock workers h (so_far.marks ∷ []) number (slice_get h.entries number)
      (AddedByOneLine-one so_far.marks number (OneOf-end_to_end began so_far.marks number so_far.end_to_end after (omega (arith, so_far.all_seen))));
}
