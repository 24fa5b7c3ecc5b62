-- What the replies of a session show of its history.
use Rattle.std.proofs.Common.{◌≡◌, ◌⊎◌, inl, inr, ℕ, zero, suc, ◌+◌, ◌-◌, ◌<◌, ◌≤◌, List, [], ◌∷◌, ◌++◌, length, take, drop, Option, refl, sym, ap, subst, ◌∙◌, append_assoc, arith}
use Rattle.std.specs.Prelude.{Some, None, IsSomeAnd, slice_get}
use Rattle.std.proofs.lemmas.Bool.{cases_lt, cases_order}
use Rattle.std.proofs.lemmas.List.{append-nil}
use Rattle.std.proofs.lemmas.Option.{slice_get_within}
use Rattle.std.proofs.Math.Seq.{take-length}
use Rattle.lt_schema.specs.declared.value.Value.{Value}
use Rattle.lt_schema.specs.declared.change.Change.{Change}
use Rattle.lt_command.specs.declared.query.Query.{Query}
use Rattle.lt_command.specs.declared.command.Command.{Command}
use Rattle.lt_command.specs.declared.command.Command.TheVariants.{Insert, Scan, Latest as LatestCommand, Flush, Upkeep, Alter, Tablets}
use Rattle.lt_command.specs.declared.command.Line.{Line}
use Rattle.lt_command.specs.declared.command.Line.TheVariants.{Skip, Bad, Command as CommandLine}
use Rattle.lt_command.specs.declared.reply.Reply.{Reply}
use Rattle.lt_command.specs.declared.reply.Reply.TheVariants.{Inserted, BadRow, TooOld, Present, Spent, Rows, Latest, BadLimit, BadBound, Flushed, NoTablet, Upkept, Version, Refused, Tablets as TabletsReply, Damaged, Fault, NoMemory}
use Rattle.lt_model.specs.History.{Numbered, Opening, Entry, row_entry, bound_entry, schema_entry, kept_entry, History, front}
use Rattle.lt_schema.specs.Versions.{newest_version}
use Rattle.lt_model.specs.Readings.{rows_in, next, schemas, since}
use Rattle.lt_model.specs.Legal.{IsLegal, EachFollows, MayFollow}
use Rattle.lt_model.specs.Step.{IsStep, InsertStep, ScanStep, LatestStep, AlterStep, FlushStep, TellsKept, UpkeepStep, MayPurge, TabletsStep, AddsRow}
use Rattle.lt_model.specs.Session.{Mark, seen_after, Stand, Workers, IsSession, Client, Block, CommandAnswered, LineAnswered, LinesAnswered, ClientsAnswered, mark_of, Adds, AddedByOneLine, HasOrigin}
use Rattle.lt_model.specs.Shown.{line_at, reply_at, Inserts, IsAdded, IsShownOnce, IsGivenSince}

slice_get-drop : {X : Type 0} (n : ℕ) (xs : List X) (i : ℕ) → slice_get (drop n xs) i ≡ slice_get xs (n + i)
slice_get-drop zero xs i = ap (slice_get xs) (omega arith)
slice_get-drop (suc n) [] i = refl
slice_get-drop (suc n) (x ∷ xs) i =
    let place : suc n + i ≡ suc (n + i) = omega arith in
    slice_get-drop n xs i ∙ sym (ap (slice_get (x ∷ xs)) place)

slice_get-take : {X : Type 0} (n : ℕ) (xs : List X) (i : ℕ) → i < n → slice_get (take n xs) i ≡ slice_get xs i
slice_get-take zero xs i below = absurd (omega arith)
slice_get-take (suc n) [] i below = refl
slice_get-take (suc n) (x ∷ xs) zero below = refl
slice_get-take (suc n) (x ∷ xs) (suc i) below = slice_get-take n xs i (omega arith)

-- the entries that stand after a front are those of the history there
Stand-at : (h : History) (goes : ℕ) (added : List Entry) (i : ℕ) → Stand h goes added → i < length added → slice_get added i ≡ slice_get h.entries (goes + i)
Stand-at h goes added i stand below =
    ap (λ (es : List Entry). slice_get es i) (sym stand.there) ∙ slice_get-take (length added) (drop goes h.entries) i below ∙ slice_get-drop goes h.entries i

-- each entry may follow those before it
EachFollows-at : (o : Opening) (before entries : List Entry) (k : ℕ) (e : Entry) → EachFollows o before entries → slice_get entries k ≡ Some e
    → MayFollow (record { opening = o; entries = before ++ take k entries }) e
EachFollows-at o before [] k e follows is = cc
EachFollows-at o before (first ∷ entries) zero e follows is =
    let same : first ≡ e = cc in
    rw (append-nil before) (subst (MayFollow (record { opening = o; entries = before })) same follows.0)
EachFollows-at o before (first ∷ entries) (suc k) e follows is =
    rw append_assoc at (EachFollows-at o (before ++ first ∷ []) entries k e follows.1 is)

-- a row's number is the place of the front before it
number_at : (h : History) (k : ℕ) (numbered : Numbered) (tablet : ℕ) → IsLegal h → slice_get h.entries k ≡ Some (row_entry numbered tablet) → numbered.seq ≡ next (front k h)
number_at h k numbered tablet legal is = (EachFollows-at h.opening [] h.entries k (row_entry numbered tablet) legal.follows is).number

record RowAt (entries : List Entry) (n : ℕ) : Type 0 where
  place : ℕ
  numbered : Numbered
  tablet : ℕ
  there : slice_get entries place ≡ Some (row_entry numbered tablet)
  before : length (rows_in (take place entries)) ≡ n

-- the row with n rows before it
row_at : (entries : List Entry) (n : ℕ) → n < length (rows_in entries) → RowAt entries n
row_at [] n below = absurd (omega arith)
row_at (row_entry numbered tablet ∷ entries) zero below = record { place = zero; numbered = numbered; tablet = tablet; there = refl; before = refl }
row_at (row_entry numbered tablet ∷ entries) (suc n) below =
    let r = row_at entries n (omega arith) in
    record { place = suc r.place; numbered = r.numbered; tablet = r.tablet; there = r.there; before = ap suc r.before }
row_at (bound_entry bound ∷ entries) n below =
    let r = row_at entries n below in record { place = suc r.place; numbered = r.numbered; tablet = r.tablet; there = r.there; before = r.before }
row_at (schema_entry change ∷ entries) n below =
    let r = row_at entries n below in record { place = suc r.place; numbered = r.numbered; tablet = r.tablet; there = r.there; before = r.before }
row_at (kept_entry number ∷ entries) n below =
    let r = row_at entries n below in record { place = suc r.place; numbered = r.numbered; tablet = r.tablet; there = r.there; before = r.before }

-- fewer entries have no more rows
fewer_rows : (entries : List Entry) (j k : ℕ) → j ≤ k → length (rows_in (take j entries)) ≤ length (rows_in (take k entries))
fewer_rows entries zero k below = omega arith
fewer_rows entries (suc j) zero below = absurd (omega arith)
fewer_rows [] (suc j) (suc k) below = omega arith
fewer_rows (row_entry numbered tablet ∷ entries) (suc j) (suc k) below = omega (arith, fewer_rows entries j k (omega arith))
fewer_rows (bound_entry bound ∷ entries) (suc j) (suc k) below = fewer_rows entries j k (omega arith)
fewer_rows (schema_entry change ∷ entries) (suc j) (suc k) below = fewer_rows entries j k (omega arith)
fewer_rows (kept_entry number ∷ entries) (suc j) (suc k) below = fewer_rows entries j k (omega arith)

-- a row counts from the next front on
row_counts : (entries : List Entry) (j k : ℕ) (numbered : Numbered) (tablet : ℕ) → j < k → slice_get entries j ≡ Some (row_entry numbered tablet)
    → length (rows_in (take j entries)) < length (rows_in (take k entries))
row_counts entries j zero numbered tablet below is = absurd (omega arith)
row_counts [] j (suc k) numbered tablet below is = cc
row_counts (row_entry n t ∷ entries) zero (suc k) numbered tablet below is = omega arith
row_counts (bound_entry bound ∷ entries) zero (suc k) numbered tablet below is = cc
row_counts (schema_entry change ∷ entries) zero (suc k) numbered tablet below is = cc
row_counts (kept_entry number ∷ entries) zero (suc k) numbered tablet below is = cc
row_counts (row_entry n t ∷ entries) (suc j) (suc k) numbered tablet below is = omega (arith, row_counts entries j k numbered tablet (omega arith) is)
row_counts (bound_entry bound ∷ entries) (suc j) (suc k) numbered tablet below is = row_counts entries j k numbered tablet (omega arith) is
row_counts (schema_entry change ∷ entries) (suc j) (suc k) numbered tablet below is = row_counts entries j k numbered tablet (omega arith) is
row_counts (kept_entry number ∷ entries) (suc j) (suc k) numbered tablet below is = row_counts entries j k numbered tablet (omega arith) is

-- two rows that have as many rows before them stand at one place
same_place : (entries : List Entry) (j k : ℕ) (a b : Numbered) (s t : ℕ) → slice_get entries j ≡ Some (row_entry a s) → slice_get entries k ≡ Some (row_entry b t)
    → length (rows_in (take j entries)) ≡ length (rows_in (take k entries)) → j ≡ k
same_place entries j k a b s t at_j at_k same = elim (cases_order j k) [
  | inl equal ↦ equal
  | inr (inl less) ↦ absurd (omega (arith, row_counts entries j k a s less at_j))
  | inr (inr more) ↦ absurd (omega (arith, row_counts entries k j b t more at_k))
]

-- a step whose entries have a row is that of an insert of this row
record InsertsRow (command : Command) (reply : Reply) (numbered : Numbered) : Type 0 where
  command_is : command ≡ Insert numbered.row
  reply_is : reply ≡ Inserted numbered.seq

nothing_there : {P : Type 0} (added : List Entry) (i : ℕ) (e : Entry) → added ≡ [] → slice_get added i ≡ Some e → P
nothing_there added i e none is = let past : slice_get added i ≡ None = ap (λ (es : List Entry). slice_get es i) none in cc

AddsRow-inserts : (decided : History) (row : List Value) (seq : ℕ) (added : List Entry) (i : ℕ) (numbered : Numbered) (tablet : ℕ) → AddsRow decided row seq added
    → slice_get added i ≡ Some (row_entry numbered tablet) → InsertsRow (Insert row) (Inserted seq) numbered
AddsRow-inserts decided row seq added i numbered tablet adds is = go i (sym is ∙ ap (λ (es : List Entry). slice_get es i) adds.only)
  where
    go : (j : ℕ) → Some (row_entry numbered tablet) ≡ slice_get (row_entry (record { seq = next decided; ver = newest_version (schemas decided); row = row }) adds.tablet ∷ []) j
        → InsertsRow (Insert row) (Inserted seq) numbered
    go zero same =
        let the_row : numbered ≡ record { seq = next decided; ver = newest_version (schemas decided); row = row } = cc in
        record { command_is = ap (λ (n : Numbered). Insert n.row) (sym the_row); reply_is = ap Inserted (adds.number ∙ ap (λ (n : Numbered). n.seq) (sym the_row)) }
    go (suc j) same = cc

InsertStep-inserts : (decided : History) (now : ℕ) (row : List Value) (reply : Reply) (added : List Entry) (i : ℕ) (numbered : Numbered) (tablet : ℕ) → InsertStep decided now row reply added
    → slice_get added i ≡ Some (row_entry numbered tablet) → InsertsRow (Insert row) reply numbered
InsertStep-inserts decided now row (Inserted seq) added i numbered tablet step is = AddsRow-inserts decided row seq added i numbered tablet step.1 is
InsertStep-inserts decided now row (BadRow fault) added i numbered tablet step is = nothing_there added i (row_entry numbered tablet) step.1 is
InsertStep-inserts decided now row (TooOld bound) added i numbered tablet step is = nothing_there added i (row_entry numbered tablet) step.1 is
InsertStep-inserts decided now row (Present seq) added i numbered tablet step is = nothing_there added i (row_entry numbered tablet) step.1 is
InsertStep-inserts decided now row Spent added i numbered tablet step is = nothing_there added i (row_entry numbered tablet) step.1 is
InsertStep-inserts decided now row (Damaged file at) added i numbered tablet step is = nothing_there added i (row_entry numbered tablet) step is
InsertStep-inserts decided now row Fault added i numbered tablet step is = nothing_there added i (row_entry numbered tablet) step is
InsertStep-inserts decided now row NoMemory added i numbered tablet step is = nothing_there added i (row_entry numbered tablet) step is
InsertStep-inserts decided now row _ added i numbered tablet step is = absurd step

ScanStep-nothing : (decided : History) (now : ℕ) (query : Query) (reply : Reply) (added : List Entry) → ScanStep decided now query reply added → added ≡ []
ScanStep-nothing decided now query (Rows rows more place bound) added step = step.2
ScanStep-nothing decided now query (BadLimit given) added step = step.2
ScanStep-nothing decided now query (BadBound fault) added step = step.2
ScanStep-nothing decided now query (Damaged file at) added step = step
ScanStep-nothing decided now query Fault added step = step
ScanStep-nothing decided now query NoMemory added step = step
ScanStep-nothing decided now query _ added step = absurd step

LatestStep-nothing : (decided : History) (now : ℕ) (prefix : List Value) (reply : Reply) (added : List Entry) → LatestStep decided now prefix reply added → added ≡ []
LatestStep-nothing decided now prefix (Latest row place bound) added step = step.1
LatestStep-nothing decided now prefix (BadBound fault) added step = step.1
LatestStep-nothing decided now prefix (Damaged file at) added step = step
LatestStep-nothing decided now prefix Fault added step = step
LatestStep-nothing decided now prefix NoMemory added step = step
LatestStep-nothing decided now prefix _ added step = absurd step

one_change : {P : Type 0} (change : Change) (added : List Entry) (i : ℕ) (numbered : Numbered) (tablet : ℕ) → added ≡ schema_entry change ∷ [] → slice_get added i ≡ Some (row_entry numbered tablet) → P
one_change {P} change added i numbered tablet only is = go i (sym is ∙ ap (λ (es : List Entry). slice_get es i) only)
  where
    go : (j : ℕ) → Some (row_entry numbered tablet) ≡ slice_get (schema_entry change ∷ []) j → P
    go zero same = cc
    go (suc j) same = cc

AlterStep-no_row : {P : Type 0} (decided : History) (change : Change) (reply : Reply) (added : List Entry) (i : ℕ) (numbered : Numbered) (tablet : ℕ) → AlterStep decided change reply added
    → slice_get added i ≡ Some (row_entry numbered tablet) → P
AlterStep-no_row decided change (Version version) added i numbered tablet step is = one_change change added i numbered tablet step.2 is
AlterStep-no_row decided change (Refused why) added i numbered tablet step is = nothing_there added i (row_entry numbered tablet) step.1 is
AlterStep-no_row decided change Spent added i numbered tablet step is = nothing_there added i (row_entry numbered tablet) step is
AlterStep-no_row decided change Fault added i numbered tablet step is = nothing_there added i (row_entry numbered tablet) step is
AlterStep-no_row decided change NoMemory added i numbered tablet step is = nothing_there added i (row_entry numbered tablet) step is
AlterStep-no_row decided change _ added i numbered tablet step is = absurd step

-- an entry of another kind is no row's
no_row : {P : Type 0} (e : Entry) (added : List Entry) (i : ℕ) (numbered : Numbered) (tablet : ℕ) → (e ≡ row_entry numbered tablet → P) → added ≡ e ∷ [] → slice_get added i ≡ Some (row_entry numbered tablet) → P
no_row {P} e added i numbered tablet other only is = go i (sym is ∙ ap (λ (es : List Entry). slice_get es i) only)
  where
    go : (j : ℕ) → Some (row_entry numbered tablet) ≡ slice_get (e ∷ []) j → P
    go zero same = other cc
    go (suc j) same = cc

TellsKept-no_row : {P : Type 0} (settled : History) (kept_after : ℕ) (added : List Entry) (i : ℕ) (numbered : Numbered) (tablet : ℕ) → TellsKept settled kept_after added
    → slice_get added i ≡ Some (row_entry numbered tablet) → P
TellsKept-no_row settled kept_after added i numbered tablet (inl none) is = nothing_there added i (row_entry numbered tablet) none.1 is
TellsKept-no_row settled kept_after added i numbered tablet (inr raised) is = no_row (kept_entry kept_after) added i numbered tablet (λ same. cc) raised.1 is

FlushStep-no_row : {P : Type 0} (decided settled : History) (which : Option ℕ) (reply : Reply) (added : List Entry) (i : ℕ) (numbered : Numbered) (tablet : ℕ) → FlushStep decided settled which reply added
    → slice_get added i ≡ Some (row_entry numbered tablet) → P
FlushStep-no_row decided settled which (Flushed kept_after tablets) added i numbered tablet step is = TellsKept-no_row settled kept_after added i numbered tablet step.2 is
FlushStep-no_row decided settled (Some one) (NoTablet named) added i numbered tablet step is = nothing_there added i (row_entry numbered tablet) step.2 is
FlushStep-no_row decided settled which Spent added i numbered tablet step is = nothing_there added i (row_entry numbered tablet) step is
FlushStep-no_row decided settled which Fault added i numbered tablet step is = nothing_there added i (row_entry numbered tablet) step is
FlushStep-no_row decided settled which NoMemory added i numbered tablet step is = nothing_there added i (row_entry numbered tablet) step is
FlushStep-no_row decided settled which _ added i numbered tablet step is = absurd step

MayPurge-no_row : {P : Type 0} (decided : History) (now : ℕ) (added : List Entry) (i : ℕ) (numbered : Numbered) (tablet : ℕ) → MayPurge decided now added
    → slice_get added i ≡ Some (row_entry numbered tablet) → P
MayPurge-no_row decided now added i numbered tablet (inl none) is = nothing_there added i (row_entry numbered tablet) none is
MayPurge-no_row decided now added i numbered tablet (inr raised) is = no_row (bound_entry (since decided now)) added i numbered tablet (λ same. cc) raised is

UpkeepStep-no_row : {P : Type 0} (decided : History) (now : ℕ) (reply : Reply) (added : List Entry) (i : ℕ) (numbered : Numbered) (tablet : ℕ) → UpkeepStep decided now reply added
    → slice_get added i ≡ Some (row_entry numbered tablet) → P
UpkeepStep-no_row decided now (Upkept low_after run end swept) added i numbered tablet step is = MayPurge-no_row decided now added i numbered tablet step.may is
UpkeepStep-no_row decided now Spent added i numbered tablet step is = MayPurge-no_row decided now added i numbered tablet step is
UpkeepStep-no_row decided now (Damaged file at) added i numbered tablet step is = MayPurge-no_row decided now added i numbered tablet step is
UpkeepStep-no_row decided now Fault added i numbered tablet step is = MayPurge-no_row decided now added i numbered tablet step is
UpkeepStep-no_row decided now NoMemory added i numbered tablet step is = MayPurge-no_row decided now added i numbered tablet step is
UpkeepStep-no_row decided now _ added i numbered tablet step is = absurd step

TabletsStep-nothing : (decided : History) (reply : Reply) (added : List Entry) → TabletsStep decided reply added → added ≡ []
TabletsStep-nothing decided (TabletsReply listing) added step = step.1
TabletsStep-nothing decided NoMemory added step = step
TabletsStep-nothing decided _ added step = absurd step

IsStep-inserts : (decided settled : History) (now : ℕ) (command : Command) (reply : Reply) (added : List Entry) (i : ℕ) (numbered : Numbered) (tablet : ℕ)
    → IsStep decided settled now command reply added → slice_get added i ≡ Some (row_entry numbered tablet) → InsertsRow command reply numbered
IsStep-inserts decided settled now (Insert row) reply added i numbered tablet step is = InsertStep-inserts decided now row reply added i numbered tablet step.1 is
IsStep-inserts decided settled now (Scan query) reply added i numbered tablet step is = nothing_there added i (row_entry numbered tablet) (ScanStep-nothing decided now query reply added step.1) is
IsStep-inserts decided settled now (LatestCommand prefix) reply added i numbered tablet step is = nothing_there added i (row_entry numbered tablet) (LatestStep-nothing decided now prefix reply added step.1) is
IsStep-inserts decided settled now (Flush which) reply added i numbered tablet step is = FlushStep-no_row decided settled which reply added i numbered tablet step is
IsStep-inserts decided settled now Upkeep reply added i numbered tablet step is = UpkeepStep-no_row decided now reply added i numbered tablet step.1 is
IsStep-inserts decided settled now (Alter change) reply added i numbered tablet step is = AlterStep-no_row decided change reply added i numbered tablet step.1 is
IsStep-inserts decided settled now Tablets reply added i numbered tablet step is = nothing_there added i (row_entry numbered tablet) (TabletsStep-nothing decided reply added step.1) is

-- a line's own entries stand nowhere before what its client had seen
goes-later : (clock : ℕ → Type 0) (h : History) (seen : ℕ) (line : Line) (reply : Reply) (mark : Mark) → LineAnswered clock h seen line reply mark → seen ≤ mark.goes
goes-later clock h seen Skip reply mark answered = absurd answered
goes-later clock h seen (Bad client at) reply mark answered = omega (arith, answered.stays.0)
goes-later clock h seen (CommandLine client moment command) reply mark answered = omega arith

-- what stands at a line of a client: the line, its reply and its mark
record LineAt (clock : ℕ → Type 0) (h : History) (began : ℕ) (lines : List Line) (replies : List Reply) (marks : List Mark) (l : ℕ) : Type 0 where
  seen : ℕ
  line : Line
  reply : Reply
  mark : Mark
  line_is : slice_get lines l ≡ Some line
  reply_is : slice_get replies l ≡ Some reply
  mark_is : slice_get marks l ≡ Some mark
  later : began ≤ seen
  answered : LineAnswered clock h seen line reply mark

abbrev NoLineAt : List Line → List Mark → ℕ → Type 0
NoLineAt lines marks l = (slice_get lines l ≡ None) × (slice_get marks l ≡ None)

line_of_lines : (clock : ℕ → Type 0) (h : History) (began seen : ℕ) (lines : List Line) (replies : List Reply) (marks : List Mark) (l : ℕ) → began ≤ seen → LinesAnswered clock h seen lines replies marks
    → LineAt clock h began lines replies marks l ⊎ NoLineAt lines marks l
line_of_lines clock h began seen [] [] [] l later answered = inr (refl, refl)
line_of_lines clock h began seen [] [] (mark ∷ marks) l later answered = absurd answered
line_of_lines clock h began seen [] (reply ∷ replies) marks l later answered = absurd answered
line_of_lines clock h began seen (line ∷ lines) [] marks l later answered = absurd answered
line_of_lines clock h began seen (line ∷ lines) (reply ∷ replies) [] l later answered = absurd answered
line_of_lines clock h began seen (line ∷ lines) (reply ∷ replies) (mark ∷ marks) zero later answered =
    inl (record { seen = seen; line = line; reply = reply; mark = mark; line_is = refl; reply_is = refl; mark_is = refl; later = later; answered = answered.0 })
line_of_lines clock h began seen (line ∷ lines) (reply ∷ replies) (mark ∷ marks) (suc l) later answered = elim (line_of_lines clock h began (seen_after mark) lines replies marks l
    (omega (arith, goes-later clock h seen line reply mark answered.0)) answered.1) [
      | inl a ↦ inl (record { seen = a.seen; line = a.line; reply = a.reply; mark = a.mark; line_is = a.line_is; reply_is = a.reply_is; mark_is = a.mark_is; later = a.later; answered = a.answered })
      | inr none ↦ inr none
    ]

record Answered (clock : ℕ → Type 0) (h : History) (began : ℕ) (clients : List Client) (blocks : List Block) (marks : List (List Mark)) (c l : ℕ) : Type 0 where
  seen : ℕ
  line : Line
  reply : Reply
  mark : Mark
  line_is : line_at clients c l ≡ Some line
  reply_is : reply_at blocks c l ≡ Some reply
  mark_is : mark_of marks c l ≡ Some mark
  later : began ≤ seen
  answered : LineAnswered clock h seen line reply mark

abbrev NoneAt : List Client → List (List Mark) → ℕ → ℕ → Type 0
NoneAt clients marks c l = (line_at clients c l ≡ None) × (mark_of marks c l ≡ None)

answered_at : (clock : ℕ → Type 0) (h : History) (began : ℕ) (clients : List Client) (blocks : List Block) (marks : List (List Mark)) (c l : ℕ) → ClientsAnswered clock h began clients blocks marks
    → Answered clock h began clients blocks marks c l ⊎ NoneAt clients marks c l
answered_at clock h began [] [] [] c l answered = inr (refl, refl)
answered_at clock h began [] [] (own ∷ marks) c l answered = absurd answered
answered_at clock h began [] (block ∷ blocks) marks c l answered = absurd answered
answered_at clock h began (client ∷ clients) [] marks c l answered = absurd answered
answered_at clock h began (client ∷ clients) (block ∷ blocks) [] c l answered = absurd answered
answered_at clock h began (client ∷ clients) (block ∷ blocks) (own ∷ marks) zero l answered = elim (line_of_lines clock h began began client.lines block.replies own l (omega arith) answered.1) [
  | inl a ↦ inl (record { seen = a.seen; line = a.line; reply = a.reply; mark = a.mark; line_is = a.line_is; reply_is = a.reply_is; mark_is = a.mark_is; later = a.later; answered = a.answered })
  | inr none ↦ inr none
]
answered_at clock h began (client ∷ clients) (block ∷ blocks) (own ∷ marks) (suc c) l answered = elim (answered_at clock h began clients blocks marks c l answered.2) [
  | inl a ↦ inl (record { seen = a.seen; line = a.line; reply = a.reply; mark = a.mark; line_is = a.line_is; reply_is = a.reply_is; mark_is = a.mark_is; later = a.later; answered = a.answered })
  | inr none ↦ inr none
]

-- where an accepted row stands, and that its own line added it
record Placed (h : History) (began : ℕ) (marks : List (List Mark)) (c l : ℕ) (row : List Value) (seq : ℕ) : Type 0 where
  added : IsAdded h began row seq
  adds : Adds marks added.entry c l

placed_by_mark : (clock : ℕ → Type 0) (h : History) (began seen : ℕ) (marks : List (List Mark)) (c l : ℕ) (moment : Option ℕ) (row : List Value) (seq : ℕ) (mark : Mark)
    → mark_of marks c l ≡ Some mark → began ≤ seen → CommandAnswered clock h seen moment (Insert row) (Inserted seq) mark → Placed h began marks c l row seq
placed_by_mark clock h began seen marks c l moment row seq mark mark_is later answered =
    let adds : AddsRow (front mark.at h) row seq mark.added = answered.step.1.1 in
    let one : length mark.added ≡ 1 = ap length adds.only in
    let there = sym (Stand-at h mark.goes mark.added 0 answered.stand (omega arith)) ∙ ap (λ (es : List Entry). slice_get es 0) adds.only in
    record {
      added = record {
        entry = mark.goes;
        no_earlier = omega arith;
        ver = newest_version (schemas (front mark.at h));
        tablet = adds.tablet;
        there = ap (slice_get h.entries) (omega arith) ∙ there ∙ ap (λ (n : ℕ). Some (row_entry (record { seq = n; ver = newest_version (schemas (front mark.at h)); row = row }) adds.tablet)) (sym adds.number);
      };
      adds = subst (λ (o : Option Mark). IsSomeAnd o (λ m. (m.goes ≤ mark.goes) × (mark.goes < seen_after m))) (sym mark_is) (omega arith, omega arith);
    }

placed : (clock : ℕ → Type 0) (h : History) (began : ℕ) (clients : List Client) (blocks : List Block) (marks : List (List Mark)) (c l : ℕ) (row : List Value) (seq : ℕ)
    → ClientsAnswered clock h began clients blocks marks → Inserts clients blocks c l row seq → Placed h began marks c l row seq
placed clock h began clients blocks marks c l row seq answered inserts = elim (answered_at clock h began clients blocks marks c l answered) [
  | inr none ↦ cc
  | inl a ↦
      let line_is : a.line ≡ CommandLine inserts.name inserts.moment (Insert row) = cc in
      let reply_is : a.reply ≡ Inserted seq = cc in
      let own : LineAnswered clock h a.seen (CommandLine inserts.name inserts.moment (Insert row)) (Inserted seq) a.mark =
      subst (λ (line : Line). LineAnswered clock h a.seen line (Inserted seq) a.mark) line_is (subst (λ (reply : Reply). LineAnswered clock h a.seen a.line reply a.mark) reply_is a.answered) in
      placed_by_mark clock h began a.seen marks c l inserts.moment row seq a.mark a.mark_is a.later own
]

-- its number was given since the session began
given : (h : History) (began : ℕ) (row : List Value) (seq : ℕ) → IsLegal h → IsAdded h began row seq → IsGivenSince h began seq
given h began row seq legal added =
    let numbered : Numbered = record { seq = seq; ver = added.ver; row = row } in
    let number : seq ≡ next (front added.entry h) = number_at h added.entry numbered added.tablet legal added.there in
    let within : added.entry < length h.entries = slice_get_within h.entries added.entry (row_entry numbered added.tablet) added.there in
    let counts = row_counts h.entries added.entry (length h.entries) numbered added.tablet within added.there in
    let whole : take (length h.entries) h.entries ≡ h.entries = take-length h.entries in
    record {
      from = omega (arith, fewer_rows h.entries began added.entry added.no_earlier);
      below = omega (arith, (rw whole at counts));
    }

pub replies-show : (clock : ℕ → Type 0) (workers : Workers) (began : ℕ) (clients : List Client) (blocks : List Block) (h : History) (c l : ℕ) (row : List Value) (seq : ℕ)
    → IsSession clock workers began clients blocks h → Inserts clients blocks c l row seq → IsAdded h began row seq × IsGivenSince h began seq
replies-show clock workers began clients blocks h c l row seq session inserts =
    let p = placed clock h began clients blocks session.marks c l row seq session.answered inserts in
    (p.added, given h began row seq session.legal p.added)

some_and : {X : Type 0} (o : Option X) (P : X → Type 0) → IsSomeAnd o P → (x : X) × (o ≡ Some x) × P x
some_and None P holds = absurd holds
some_and (Some x) P holds = (x, refl, holds)

inserts_by_line : (clock : ℕ → Type 0) (h : History) (clients : List Client) (blocks : List Block) (c l k seen : ℕ) (line : Line) (reply : Reply) (mark : Mark) (numbered : Numbered) (tablet : ℕ)
    → line_at clients c l ≡ Some line → reply_at blocks c l ≡ Some reply → LineAnswered clock h seen line reply mark → mark.goes ≤ k → k < seen_after mark
    → slice_get h.entries k ≡ Some (row_entry numbered tablet) → Inserts clients blocks c l numbered.row numbered.seq
inserts_by_line clock h clients blocks c l k seen Skip reply mark numbered tablet line_is reply_is answered from below there = absurd answered
inserts_by_line clock h clients blocks c l k seen (Bad client at) reply mark numbered tablet line_is reply_is answered from below there =
    absurd (omega (arith, ap length answered.stays.1))
inserts_by_line clock h clients blocks c l k seen (CommandLine client moment command) reply mark numbered tablet line_is reply_is answered from below there =
    let place : mark.goes + (k - mark.goes) ≡ k = omega arith in
    let own : slice_get mark.added (k - mark.goes) ≡ Some (row_entry numbered tablet) =
    Stand-at h mark.goes mark.added (k - mark.goes) answered.stand (omega arith) ∙ ap (slice_get h.entries) place ∙ there in
    let one = IsStep-inserts (front mark.at h) (front mark.goes h) mark.now command reply mark.added (k - mark.goes) numbered tablet answered.step own in
    record { name = client; moment = moment; asked = line_is ∙ ap (λ (asked : Command). Some (CommandLine client moment asked)) one.command_is; answered = reply_is ∙ ap Some one.reply_is }

inserts_by_mark : (clock : ℕ → Type 0) (h : History) (began : ℕ) (clients : List Client) (blocks : List Block) (marks : List (List Mark)) (c l k : ℕ) (numbered : Numbered) (tablet : ℕ)
    → ClientsAnswered clock h began clients blocks marks → Adds marks k c l → slice_get h.entries k ≡ Some (row_entry numbered tablet) → Inserts clients blocks c l numbered.row numbered.seq
inserts_by_mark clock h began clients blocks marks c l k numbered tablet answered adds there =
    let own = some_and (mark_of marks c l) (λ mark. (mark.goes ≤ k) × (k < seen_after mark)) adds in
    let mark_is : mark_of marks c l ≡ Some own.0 = own.1 in
    elim (answered_at clock h began clients blocks marks c l answered) [
      | inr none ↦ cc
      | inl a ↦
          let same : own.0 ≡ a.mark = cc in
          let around = subst (λ (mark : Mark). (mark.goes ≤ k) × (k < seen_after mark)) same own.2 in
          inserts_by_line clock h clients blocks c l k a.seen a.line a.reply a.mark numbered tablet a.line_is a.reply_is a.answered around.0 around.1 there
    ]

-- the row of a number that was given since the session began
record GivenRow (h : History) (began seq : ℕ) : Type 0 where
  place : ℕ
  numbered : Numbered
  tablet : ℕ
  there : slice_get h.entries place ≡ Some (row_entry numbered tablet)
  no_earlier : began ≤ place
  number : numbered.seq ≡ seq

given_row : (h : History) (began seq : ℕ) → IsLegal h → IsGivenSince h began seq → GivenRow h began seq
given_row h began seq legal given =
    let r = row_at h.entries (seq - h.opening.next) (omega arith) in
    let number : r.numbered.seq ≡ next (front r.place h) = number_at h r.place r.numbered r.tablet legal r.there in
    let is : r.numbered.seq ≡ seq = omega arith in
    elim (cases_lt r.place began) [
      | inl early ↦ absurd (omega (arith, row_counts h.entries r.place began r.numbered r.tablet early r.there))
      | inr late ↦ record { place = r.place; numbered = r.numbered; tablet = r.tablet; there = r.there; no_earlier = late; number = is }
    ]

row_origin : (clock : ℕ → Type 0) (workers : Workers) (h : History) (marks : List (List Mark)) (k : ℕ) (numbered : Numbered) (tablet : ℕ) → HasOrigin clock workers h marks k (slice_get h.entries k)
    → slice_get h.entries k ≡ Some (row_entry numbered tablet) → AddedByOneLine marks k
row_origin clock workers h marks k numbered tablet origin there = subst (HasOrigin clock workers h marks k) there origin

no_other_line : (clock : ℕ → Type 0) (workers : Workers) (began : ℕ) (clients : List Client) (blocks : List Block) (h : History) (session : IsSession clock workers began clients blocks h) (seq : ℕ) (r : GivenRow h began seq)
    (one : AddedByOneLine session.marks r.place) (c l : ℕ) (other : List Value) → Inserts clients blocks c l other seq → (c ≡ one.client) × (l ≡ one.line)
no_other_line clock workers began clients blocks h session seq r one c l other inserts =
    let p = placed clock h began clients blocks session.marks c l other seq session.answered inserts in
    let here : r.numbered.seq ≡ next (front r.place h) = number_at h r.place r.numbered r.tablet session.legal r.there in
    let its : Numbered = record { seq = seq; ver = p.added.ver; row = other } in
    let there : seq ≡ next (front p.added.entry h) = number_at h p.added.entry its p.added.tablet session.legal p.added.there in
    let is = r.number in
    let same : p.added.entry ≡ r.place = same_place h.entries p.added.entry r.place its r.numbered p.added.tablet r.tablet p.added.there r.there (omega arith) in
    one.no_other c l (subst (λ (entry : ℕ). Adds session.marks entry c l) same p.adds)

pub numbers-shown : (clock : ℕ → Type 0) (workers : Workers) (began : ℕ) (clients : List Client) (blocks : List Block) (h : History) (seq : ℕ)
    → IsSession clock workers began clients blocks h → IsGivenSince h began seq → IsShownOnce clients blocks seq
numbers-shown clock workers began clients blocks h seq session given =
    let r = given_row h began seq session.legal given in
    let within : r.place < length h.entries = slice_get_within h.entries r.place (row_entry r.numbered r.tablet) r.there in
    let one = row_origin clock workers h session.marks r.place r.numbered r.tablet (session.origins r.place r.no_earlier within) r.there in
    record {
      client = one.client;
      line = one.line;
      row = r.numbered.row;
      inserts = subst (λ (n : ℕ). Inserts clients blocks one.client one.line r.numbered.row n) r.number
          (inserts_by_mark clock h began clients blocks session.marks one.client one.line r.place r.numbered r.tablet session.answered one.adds r.there);
      no_other = no_other_line clock workers began clients blocks h session seq r one;
    }
