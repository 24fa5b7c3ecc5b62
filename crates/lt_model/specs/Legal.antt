-- Which histories there can be.
use Rattle.std.specs.Prelude.{ℕ, ◌^◌, ◌≡◌, ◌≢◌, ◌≤◌, ◌<◌, ◌⊎◌, ⊤, List, [], ◌∷◌, ◌++◌, IsTrue, None}
use Rattle.std.specs.List.{AllByRecursion}
use Rattle.std.specs.declared.cmp.Ordering.TheVariants.{Less}
use Rattle.lt_schema.specs.declared.change.Change.{Change}
use Rattle.lt_schema.specs.Lawful.{is_schema}
use Rattle.lt_schema.specs.Shapes.{SchemaShape}
use Rattle.lt_schema.specs.Values.{key_cmp}
use Rattle.lt_schema.specs.Versions.{schema_at, newest, newest_version, alter_refusal, changed}
use Rattle.lt_schema.specs.Check.{Passes, key_of}
use Rattle.lt_model.specs.History.{Numbered, Opening, Entry, row_entry, bound_entry, schema_entry, kept_entry, History}
use Rattle.lt_model.specs.Readings.{rows, next, low, kept, schemas, time_in, IsInMemory, next_tablet}

-- no two of these rows have the same key
abbrev pub KeysDiffer : SchemaShape → List Numbered → Type 0
KeysDiffer schema [] = ⊤
KeysDiffer schema (numbered ∷ others) = AllByRecursion (λ other. key_of schema numbered.row ≢ key_of schema other.row) others × KeysDiffer schema others

-- each change is admitted by the schema before it
abbrev pub AreAdmitted : SchemaShape → List Change → Type 0
AreAdmitted schema [] = ⊤
AreAdmitted schema (change ∷ changes) = (alter_refusal schema change ≡ None) × AreAdmitted (changed schema change) changes

-- an opening row passes its version, has a number below the next one, and is unexpired
pub record MayOpen (opening : Opening) (numbered : Numbered) : Type 0 where
  pub version : numbered.ver ≤ newest_version opening.schemas
  pub passes : Passes (schema_at opening.schemas numbered.ver) numbered.row
  pub number : numbered.seq < opening.next
  pub unexpired : opening.low ≤ time_in (record { opening = opening; entries = [] }) numbered

-- by number, and among equal numbers by key
abbrev pub ComesBefore : SchemaShape → Numbered → Numbered → Type 0
ComesBefore schema a b = (a.seq < b.seq) ⊎ ((a.seq ≡ b.seq) × (key_cmp (key_of schema a.row) (key_of schema b.row) ≡ Less))

-- rows rise by number and key
abbrev pub AreRising : SchemaShape → List Numbered → Type 0
AreRising schema [] = ⊤
AreRising schema (numbered ∷ others) = AllByRecursion (ComesBefore schema numbered) others × AreRising schema others

pub record IsOpening (opening : Opening) : Type 0 where
  pub schema : IsTrue (is_schema opening.schemas.first)
  pub changes : AreAdmitted opening.schemas.first opening.schemas.changes
  pub rows_may : AllByRecursion (MayOpen opening) opening.rows
  pub rising : AreRising opening.schemas.first opening.rows

-- a row takes the next number and the newest version; it passes, and is not below the bound; its tablet is one in memory or the next one
pub record RowMayFollow (before : History) (numbered : Numbered) (tablet : ℕ) : Type 0 where
  pub number : numbered.seq ≡ next before
  pub room : next before < 2 ^ 62
  pub version : numbered.ver ≡ newest_version (schemas before)
  pub passes : Passes (newest (schemas before)) numbered.row
  pub unexpired : low before ≤ time_in before numbered
  pub tablet_is : IsInMemory before tablet ⊎ (tablet ≡ next_tablet before)

-- what may follow a history
abbrev pub MayFollow : History → Entry → Type 0
MayFollow before (row_entry numbered tablet) = RowMayFollow before numbered tablet
MayFollow before (bound_entry bound) = (low before ≤ bound) × (bound < 2 ^ 62)
MayFollow before (schema_entry change) = alter_refusal (newest (schemas before)) change ≡ None
MayFollow before (kept_entry number) = (kept before ≤ number) × (number ≤ next before)

-- each entry may follow the history before it
abbrev pub EachFollows : Opening → List Entry → List Entry → Type 0
EachFollows opening before [] = ⊤
EachFollows opening before (entry ∷ entries) = MayFollow (record { opening = opening; entries = before }) entry × EachFollows opening (before ++ entry ∷ []) entries

pub record IsLegal (h : History) : Type 0 where
  pub opening : IsOpening h.opening
  pub distinct : KeysDiffer h.opening.schemas.first (rows h)
  pub follows : EachFollows h.opening [] h.entries
