-- What each command may be answered, and what it adds.
-- decided is the front at which it is decided, settled the front after which a flush's own entry comes; now is its moment,
-- and added are its own entries.
use Rattle.std.specs.Prelude.{ℕ, ◌+◌, ◌≡◌, ◌≢◌, ◌≤◌, ◌⊎◌, IsTrue, List, [], ◌∷◌, length, sum_by, Option, Some, None}
use Rattle.lt_rec.specs.declared.listed.Listed.{Listed}
use Rattle.lt_schema.specs.declared.value.Value.{Value}
use Rattle.lt_schema.specs.declared.change.Change.{Change}
use Rattle.lt_schema.specs.Versions.{newest, newest_version, alter_refusal}
use Rattle.lt_command.specs.declared.query.Query.{Query}
use Rattle.lt_command.specs.declared.command.Command.{Command}
use Rattle.lt_command.specs.declared.command.Command.TheVariants.{Insert, Scan, Latest as LatestCommand, Flush, Upkeep, Alter, Tablets}
use Rattle.lt_command.specs.declared.reply.Reply.{Reply}
use Rattle.lt_command.specs.declared.reply.Reply.TheVariants.{Inserted, BadRow, TooOld, Present, Spent, Rows, Latest, BadLimit, BadBound, Flushed, NoTablet, Upkept, Version, Refused, Tablets as TabletsReply, Damaged, Fault, NoMemory}
use Rattle.lt_model.specs.History.{Entry, row_entry, bound_entry, schema_entry, kept_entry, History, extended}
use Rattle.lt_model.specs.Readings.{next, low, kept, schemas, since, IsInMemory}
use Rattle.lt_model.specs.Boxes.{is_limit, query_fault, prefix_fault}
use Rattle.lt_model.specs.Answer.{IsAnswer, IsLatest}
use Rattle.lt_model.specs.Disk.{AreFlushed, IsDurable, AllExpire, on_disk}
use Rattle.lt_model.specs.Verdict.{IsVerdict, bad_row, too_old, present, spent, accepted}

-- the accepted row with the next number and the newest version, in some tablet
pub record AddsRow (decided : History) (row : List Value) (seq : ℕ) (added : List Entry) : Type 0 where
  pub number : seq ≡ next decided
  pub tablet : ℕ
  pub only : added ≡ row_entry (record { seq = next decided; ver = newest_version (schemas decided); row = row }) tablet ∷ []

abbrev pub InsertStep : History → ℕ → List Value → Reply → List Entry → Type 0
InsertStep decided now row (Inserted seq) added = IsVerdict decided row now accepted × AddsRow decided row seq added
InsertStep decided now row (BadRow fault) added = IsVerdict decided row now (bad_row fault) × (added ≡ [])
InsertStep decided now row (TooOld bound) added = IsVerdict decided row now (too_old bound) × (added ≡ [])
InsertStep decided now row (Present seq) added = IsVerdict decided row now (present seq) × (added ≡ [])
InsertStep decided now row Spent added = IsVerdict decided row now spent × (added ≡ [])
InsertStep decided now row (Damaged file at) added = added ≡ []
InsertStep decided now row Fault added = added ≡ []
InsertStep decided now row NoMemory added = added ≡ []
InsertStep decided now row _ added = ⊥

-- a lawful scan shows the answer at its front, and prints that front's place and bound
pub record ShowsAnswer (decided : History) (now : ℕ) (query : Query) (place bound : ℕ) : Type 0 where
  pub limit : IsTrue (is_limit query.limit)
  pub bounds : query_fault (newest (schemas decided)) query ≡ None
  pub place_is : place ≡ next decided
  pub bound_is : bound ≡ since decided now

abbrev pub ScanStep : History → ℕ → Query → Reply → List Entry → Type 0
ScanStep decided now query (Rows rows more place bound) added = ShowsAnswer decided now query place bound × IsAnswer decided query bound rows more × (added ≡ [])
ScanStep decided now query (BadLimit given) added = (given ≡ query.limit) × (¬ IsTrue (is_limit query.limit)) × (added ≡ [])
ScanStep decided now query (BadBound fault) added = IsTrue (is_limit query.limit) × (query_fault (newest (schemas decided)) query ≡ Some fault) × (added ≡ [])
ScanStep decided now query (Damaged file at) added = added ≡ []
ScanStep decided now query Fault added = added ≡ []
ScanStep decided now query NoMemory added = added ≡ []
ScanStep decided now query _ added = ⊥

pub record ShowsLatest (decided : History) (now : ℕ) (prefix : List Value) (row : Option (List Value)) (place bound : ℕ) : Type 0 where
  pub bounds : prefix_fault (newest (schemas decided)) prefix ≡ None
  pub latest : IsLatest decided prefix bound row
  pub place_is : place ≡ next decided
  pub bound_is : bound ≡ since decided now

abbrev pub LatestStep : History → ℕ → List Value → Reply → List Entry → Type 0
LatestStep decided now prefix (Latest row place bound) added = ShowsLatest decided now prefix row place bound × (added ≡ [])
LatestStep decided now prefix (BadBound fault) added = (prefix_fault (newest (schemas decided)) prefix ≡ Some fault) × (added ≡ [])
LatestStep decided now prefix (Damaged file at) added = added ≡ []
LatestStep decided now prefix Fault added = added ≡ []
LatestStep decided now prefix NoMemory added = added ≡ []
LatestStep decided now prefix _ added = ⊥

abbrev pub AlterStep : History → Change → Reply → List Entry → Type 0
AlterStep decided change (Version version) added = (alter_refusal (newest (schemas decided)) change ≡ None) × (version ≡ newest_version (schemas decided) + 1) × (added ≡ schema_entry change ∷ [])
AlterStep decided change (Refused why) added = (alter_refusal (newest (schemas decided)) change ≡ Some why) × (added ≡ [])
AlterStep decided change Spent added = added ≡ []
AlterStep decided change Fault added = added ≡ []
AlterStep decided change NoMemory added = added ≡ []
AlterStep decided change _ added = ⊥

-- an entry that tells the kept number, where the front after which it stands does not tell it already
abbrev pub TellsKept : History → ℕ → List Entry → Type 0
TellsKept settled kept_after added = ((kept_after ≡ kept settled) × (added ≡ [])) ⊎ ((kept_after ≢ kept settled) × (added ≡ kept_entry kept_after ∷ []))

abbrev pub FlushStep : History → History → Option ℕ → Reply → List Entry → Type 0
FlushStep decided settled which (Flushed kept_after tablets) added = AreFlushed decided which tablets × IsDurable decided which tablets kept_after × TellsKept settled kept_after added
FlushStep decided settled (Some tablet) (NoTablet named) added = (named ≡ tablet) × (¬ IsInMemory decided tablet) × (added ≡ [])
FlushStep decided settled which Spent added = added ≡ []
FlushStep decided settled which Fault added = added ≡ []
FlushStep decided settled which NoMemory added = added ≡ []
FlushStep decided settled which _ added = ⊥

-- at most the bound of that moment is added
abbrev pub MayPurge : History → ℕ → List Entry → Type 0
MayPurge decided now added = (added ≡ []) ⊎ (added ≡ bound_entry (since decided now) ∷ [])

-- the bound is raised where some row on disk is unexpired so far and none is any more; the low after that is told
pub record Purges (decided : History) (now low_after : ℕ) (added : List Entry) : Type 0 where
  pub may : MayPurge decided now added
  pub has_to : AllExpire decided now → added ≡ bound_entry (since decided now) ∷ []
  pub low_is : low_after ≡ low (extended decided added)

-- an upkeep that is refused may have raised the bound before
abbrev pub UpkeepStep : History → ℕ → Reply → List Entry → Type 0
UpkeepStep decided now (Upkept low_after run end swept) added = Purges decided now low_after added
UpkeepStep decided now Spent added = MayPurge decided now added
UpkeepStep decided now (Damaged file at) added = MayPurge decided now added
UpkeepStep decided now Fault added = MayPurge decided now added
UpkeepStep decided now NoMemory added = MayPurge decided now added
UpkeepStep decided now _ added = ⊥

-- the listed tablets hold the rows on disk, and beside them only rows that a bound has expired
pub record HoldsDurable (decided : History) (listing : List Listed) : Type 0 where
  pub at_least : length (on_disk decided) ≤ sum_by (λ tablet. tablet.rows) listing
  pub exactly : low decided ≡ 0 → sum_by (λ tablet. tablet.rows) listing ≡ length (on_disk decided)

abbrev pub TabletsStep : History → Reply → List Entry → Type 0
TabletsStep decided (TabletsReply listing) added = HoldsDurable decided listing × (added ≡ [])
TabletsStep decided NoMemory added = added ≡ []
TabletsStep decided _ added = ⊥

abbrev pub IsStep : History → History → ℕ → Command → Reply → List Entry → Type 0
IsStep decided settled now (Insert row) reply added = (settled ≡ decided) × InsertStep decided now row reply added
IsStep decided settled now (Scan query) reply added = (settled ≡ decided) × ScanStep decided now query reply added
IsStep decided settled now (LatestCommand prefix) reply added = (settled ≡ decided) × LatestStep decided now prefix reply added
IsStep decided settled now (Flush which) reply added = FlushStep decided settled which reply added
IsStep decided settled now Upkeep reply added = (settled ≡ decided) × UpkeepStep decided now reply added
IsStep decided settled now (Alter change) reply added = (settled ≡ decided) × AlterStep decided change reply added
IsStep decided settled now Tablets reply added = (settled ≡ decided) × TabletsStep decided reply added
