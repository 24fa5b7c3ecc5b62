-- The laws of histories and of sessions.
use Rattle.std.specs.Prelude.{ℕ, ◌+◌, ◌≡◌, ◌≤◌, ◌⊎◌, ◌↔◌, ⊤, max, Bool, IsTrue, List, [], ◌∷◌, ◌++◌, length, Option}
use Rattle.lt_schema.specs.declared.value.Value.{Value}
use Rattle.lt_schema.specs.Versions.{SchemaVersions, newest_version}
use Rattle.lt_command.specs.declared.query.Query.{Query}
use Rattle.lt_command.specs.declared.command.Command.{Command}
use Rattle.lt_command.specs.declared.command.Line.{Line}
use Rattle.lt_command.specs.declared.command.Line.TheVariants.{Bad, Command as CommandLine}
use Rattle.lt_command.specs.declared.reply.Reply.{Reply}
use Rattle.lt_command.specs.declared.reply.Reply.TheVariants.{BadLine}
use Rattle.lt_model.specs.History.{Numbered, Opening, Entry, row_entry, bound_entry, schema_entry, kept_entry, History, front, extended}
use Rattle.lt_model.specs.Readings.{Note, rows, next, low, kept, schemas, notes_in, IsInMemory, next_tablet}
use Rattle.lt_model.specs.Legal.{IsOpening, IsLegal, MayFollow, KeysDiffer}
use Rattle.lt_model.specs.Answer.{IsAnswer, IsLatest}
use Rattle.lt_model.specs.Verdict.{Verdict, accepted, IsVerdict, HasNewKey}
use Rattle.lt_model.specs.Step.{IsStep}
use Rattle.lt_model.specs.Session.{IsMoment, Workers, IsSession, Client, Block, Stand}
use Rattle.lt_model.specs.Growing.{SoFar}
use Rattle.lt_model.specs.Crash.{Durable, IsCrash}
use Rattle.lt_model.specs.Shown.{Inserts, IsAdded, IsShownOnce, IsGivenSince}

-- what was a front stays it
abbrev pub FrontsStay : Type 0
FrontsStay = (k : ℕ) (h : History) (more : List Entry) → k ≤ length h.entries → front k (extended h more) ≡ front k h

-- the front of all entries is the history
abbrev pub TheLastFront : Type 0
TheLastFront = (h : History) → front (length h.entries) h ≡ h

-- entries that stand after a front stay there
abbrev pub EntriesStay : Type 0
EntriesStay = (h : History) (more : List Entry) (goes : ℕ) (added : List Entry) → Stand h goes added → Stand (extended h more) goes added

-- those that are added stand after all others
abbrev pub AddedAtTheEnd : Type 0
AddedAtTheEnd = (h : History) (added : List Entry) → Stand (extended h added) (length h.entries) added

-- what a history says by now
pub record Reading : Type 0 where
  pub rows : List Numbered
  pub next : ℕ
  pub low : ℕ
  pub kept : ℕ
  pub schemas : SchemaVersions
  pub notes : List Note

abbrev pub reading_of : History → Reading
reading_of h = record { rows = rows h; next = next h; low = low h; kept = kept h; schemas = schemas h; notes = notes_in h.entries }

-- each kind of entry changes what it says, and leaves the rest
abbrev pub after_entry : Reading → Entry → Reading
after_entry r (row_entry numbered tablet) = record r { rows = r.rows ++ numbered ∷ []; next = r.next + 1; notes = r.notes ++ record { tablet = tablet; seq = numbered.seq } ∷ [] }
after_entry r (bound_entry bound) = record r { low = max r.low bound }
after_entry r (schema_entry change) = record r { schemas = record { first = r.schemas.first; changes = r.schemas.changes ++ change ∷ [] } }
after_entry r (kept_entry number) = record r { kept = max r.kept number }

abbrev pub ReadingsAfter : Type 0
ReadingsAfter = (h : History) (e : Entry) → reading_of (extended h (e ∷ [])) ≡ after_entry (reading_of h) e

-- an opening with different keys is a legal history
abbrev pub OpeningsAreLegal : Type 0
OpeningsAreLegal = (o : Opening) → IsOpening o → KeysDiffer o.schemas.first o.rows → IsLegal (record { opening = o; entries = [] })

abbrev pub FrontsAreLegal : Type 0
FrontsAreLegal = (k : ℕ) (h : History) → IsLegal h → IsLegal (front k h)

-- an entry's row, if it has one, has a new key
abbrev pub BringsNewKey : History → Entry → Type 0
BringsNewKey h (row_entry numbered tablet) = HasNewKey h numbered.row
BringsNewKey h (bound_entry bound) = ⊤
BringsNewKey h (schema_entry change) = ⊤
BringsNewKey h (kept_entry number) = ⊤

abbrev pub LawfulEntriesKeepItLegal : Type 0
LawfulEntriesKeepItLegal = (h : History) (e : Entry) → IsLegal h → MayFollow h e → BringsNewKey h e → IsLegal (extended h (e ∷ []))

-- a row that is accepted at any moment, under the next number and the newest version, in a tablet in memory or the next one
abbrev pub AcceptedRowsKeepItLegal : Type 0
AcceptedRowsKeepItLegal = (h : History) (row : List Value) (now tablet : ℕ) → IsLegal h → IsVerdict h row now accepted
    → IsInMemory h tablet ⊎ (tablet ≡ next_tablet h)
    → IsLegal (extended h (row_entry (record { seq = next h; ver = newest_version (schemas h); row = row }) tablet ∷ []))

-- what is answered at a front is answered there whatever was added since
abbrev pub AnswersByFront : Type 0
AnswersByFront = (k : ℕ) (h : History) (more : List Entry) → k ≤ length h.entries
    → (query : Query) (since : ℕ) (shown : List (List Value)) (others : Bool)
    → IsAnswer (front k (extended h more)) query since shown others ↔ IsAnswer (front k h) query since shown others

abbrev pub LatestByFront : Type 0
LatestByFront = (k : ℕ) (h : History) (more : List Entry) → k ≤ length h.entries
    → (prefix : List Value) (since : ℕ) (row : Option (List Value))
    → IsLatest (front k (extended h more)) prefix since row ↔ IsLatest (front k h) prefix since row

abbrev pub VerdictsByFront : Type 0
VerdictsByFront = (k : ℕ) (h : History) (more : List Entry) → k ≤ length h.entries
    → (row : List Value) (now : ℕ) (verdict : Verdict)
    → IsVerdict (front k (extended h more)) row now verdict ↔ IsVerdict (front k h) row now verdict

abbrev pub StepsByFront : Type 0
StepsByFront = (decided settled : ℕ) (h : History) (more : List Entry) → decided ≤ length h.entries → settled ≤ length h.entries
    → (now : ℕ) (command : Command) (reply : Reply) (added : List Entry)
    → IsStep (front decided (extended h more)) (front settled (extended h more)) now command reply added ↔ IsStep (front decided h) (front settled h) now command reply added

-- there is a verdict on each row, and in a legal history one alone
abbrev pub SomeVerdict : Type 0
SomeVerdict = (h : History) (row : List Value) (now : ℕ) → (verdict : Verdict) × IsVerdict h row now verdict

abbrev pub OneVerdict : Type 0
OneVerdict = (h : History) (row : List Value) (now : ℕ) (a b : Verdict) → IsLegal h → IsVerdict h row now a → IsVerdict h row now b → a ≡ b

-- in a legal history a scan, and a look at the latest row, have one answer alone
abbrev pub OneAnswer : Type 0
OneAnswer = (h : History) (query : Query) (since : ℕ) (shown again : List (List Value)) (more others : Bool) → IsLegal h
    → IsAnswer h query since shown more → IsAnswer h query since again others → (shown ≡ again) × (more ≡ others)

abbrev pub OneLatest : Type 0
OneLatest = (h : History) (prefix : List Value) (since : ℕ) (a b : Option (List Value)) → IsLegal h → IsLatest h prefix since a → IsLatest h prefix since b → a ≡ b

-- a clock that says of each moment whether it may show it
abbrev pub clock_of : (ℕ → Bool) → ℕ → Type 0
clock_of shows now = IsTrue (shows now)

-- a session of one client begins with no line
abbrev pub BeginsWithNothing : Type 0
BeginsWithNothing = (shows : ℕ → Bool) (h : History) → IsLegal h → SoFar (clock_of shows) (length h.entries) [] [] h

-- a command that is decided at the end of the history adds its entries there
abbrev pub GrowsByACommand : Type 0
GrowsByACommand = (shows : ℕ → Bool) (began : ℕ) (lines : List Line) (replies : List Reply) (h : History)
    (client : List ℕ) (moment : Option ℕ) (now : ℕ) (command : Command) (reply : Reply) (added : List Entry)
    → SoFar (clock_of shows) began lines replies h → IsMoment (clock_of shows) moment now → IsStep h h now command reply added → IsLegal (extended h added)
    → SoFar (clock_of shows) began (lines ++ CommandLine client moment command ∷ []) (replies ++ reply ∷ []) (extended h added)

-- a line outside the grammar adds nothing
abbrev pub GrowsByABadLine : Type 0
GrowsByABadLine = (shows : ℕ → Bool) (began : ℕ) (lines : List Line) (replies : List Reply) (h : History) (client : List ℕ) (at : ℕ)
    → SoFar (clock_of shows) began lines replies h → SoFar (clock_of shows) began (lines ++ Bad client at ∷ []) (replies ++ BadLine at ∷ []) h

-- at whatever line it ends, it is a session of that client alone
abbrev pub IsASessionOfOne : Type 0
IsASessionOfOne = (shows : ℕ → Bool) (workers : Workers) (began : ℕ) (name : List ℕ) (lines : List Line) (replies : List Reply) (h : History)
    → SoFar (clock_of shows) began lines replies h
    → IsSession (clock_of shows) workers began (record { name = name; lines = lines } ∷ []) (record { name = name; replies = replies } ∷ []) h

abbrev pub IsASessionOfNobody : Type 0
IsASessionOfNobody = (shows : ℕ → Bool) (workers : Workers) (h : History) → IsLegal h → IsSession (clock_of shows) workers (length h.entries) [] [] h

-- each number in a reply was given since the session began, to the row that its line asks for
abbrev pub RepliesShowTheirRows : Type 0
RepliesShowTheirRows = (shows : ℕ → Bool) (workers : Workers) (began : ℕ) (clients : List Client) (blocks : List Block) (h : History) (client line : ℕ) (row : List Value) (seq : ℕ)
    → IsSession (clock_of shows) workers began clients blocks h → Inserts clients blocks client line row seq → IsAdded h began row seq × IsGivenSince h began seq

-- each number that was given since is in one reply
abbrev pub EachNumberIsShown : Type 0
EachNumberIsShown = (shows : ℕ → Bool) (workers : Workers) (began : ℕ) (clients : List Client) (blocks : List Block) (h : History) (seq : ℕ)
    → IsSession (clock_of shows) workers began clients blocks h → IsGivenSince h began seq → IsShownOnce clients blocks seq

-- what a stop leaves of a front is what it leaves of the history, where no row since is numbered below what is durable
abbrev pub CrashesByFront : Type 0
CrashesByFront = (k : ℕ) (h : History) (durable : Durable) (found : Opening) → IsLegal h → durable.kept ≤ next (front k h) → IsCrash (front k h) durable found ↔ IsCrash h durable found
