-- For which histories a plain table stands, and what it answers then.
use Rattle.std.specs.Prelude.{⊤, ℕ, ◌+◌, ◌≡◌, ◌≢◌, ◌≤◌, ◌<◌, ◌^◌, Bool, ◌&&◌, List, [], ◌∷◌, ◌++◌, length, take, map, filter, nat_le, nat_lt, All, Contains, IsSorted, IsPermutation}
use Rattle.std.specs.declared.cmp.Ordering.{Ordering}
use Rattle.lt_schema.specs.declared.value.Value.{Value}
use Rattle.lt_schema.specs.Shapes.{SchemaShape}
use Rattle.lt_schema.specs.declared.change.Change.{Change}
use Rattle.lt_schema.specs.Versions.{SchemaVersions, newest, newest_version, lift_to_newest}
use Rattle.lt_schema.specs.Check.{Passes, key_of, time_of}
use Rattle.lt_command.specs.declared.query.Query.{Query}
use Rattle.lt_command.specs.declared.command.Command.{Command}
use Rattle.lt_command.specs.declared.reply.Reply.{Reply}
use Rattle.lt_command.specs.declared.reply.Reply.TheVariants.{Damaged}
use Rattle.lt_model.specs.History.{Numbered, Opening, Entry, History, extended}
use Rattle.lt_model.specs.Readings.{rows, next, low, kept, schemas, ttl, bound_at}
use Rattle.lt_model.specs.Boxes.{meets_low, meets_high}
use Rattle.lt_model.specs.Answer.{row_cmp}
use Rattle.lt_model.specs.Legal.{IsLegal}
use Rattle.lt_model.specs.Step.{IsStep}

-- what a history says by now, as an opening that finds all of it
abbrev pub state_of : History → Opening
state_of h = record { schemas = schemas h; ttl = ttl h; low = low h; next = next h; kept = kept h; rows = rows h }

-- a table that holds this stands for the history
abbrev pub StandsFor : Opening → History → Type 0
StandsFor held h = state_of h ≡ held

-- a command is decided at the end of the history, which gains what the command adds and stays legal; the table stands for it then
pub record IsAnswered (h : History) (new : Opening) (now : ℕ) (command : Command) (reply : Reply) : Type 0 where
  pub added : List Entry
  pub step : IsStep h h now command reply added
  pub stands : StandsFor new (extended h added)
  pub legal : IsLegal (extended h added)

-- so it is for each legal history that the table stood for
abbrev pub Answers : Opening → Opening → ℕ → Command → Reply → Type 0
Answers old new now command reply = (h : History) → IsLegal h → StandsFor old h → IsAnswered h new now command reply

-- the reply tells of no damaged file
abbrev pub IsUndamaged : Reply → Type 0
IsUndamaged (Damaged file at) = ⊥
IsUndamaged _ = ⊤

-- the row's key meets both edges, and its timestamp is one of the times
abbrev pub box_has : SchemaShape → Query → List Value → Bool
box_has schema query row =
    meets_low query.lo (key_of schema row) && meets_high query.hi (key_of schema row)
    && nat_le query.from (time_of schema row) && nat_le (time_of schema row) query.to

abbrev pub is_shown : SchemaShape → Query → ℕ → Numbered → Bool
is_shown schema query since numbered = box_has schema query numbered.row && nat_le since (time_of schema numbered.row)

-- a row under the newest schema
abbrev pub under_newest : SchemaVersions → Numbered → List Value
under_newest versions numbered = lift_to_newest versions numbered.row numbered.ver

-- rows by key, or the other way round
abbrev pub numbered_cmp : SchemaShape → Bool → Numbered → Numbered → Ordering
numbered_cmp schema down a b = row_cmp schema down a.row b.row

-- the box's unexpired rows among these in key order: the first of them are shown under the newest schema, up to the limit
pub record IsPage (versions : SchemaVersions) (query : Query) (since : ℕ) (numbered : List Numbered) (shown : List (List Value)) (more : Bool) : Type 0 where
  pub sorted : List Numbered
  pub all_of_them : IsPermutation (filter (is_shown versions.first query since) numbered) sorted
  pub in_order : IsSorted (numbered_cmp versions.first query.down) sorted
  pub first_ones : shown ≡ map (under_newest versions) (take query.limit sorted)
  pub others : more ≡ nat_lt query.limit (length sorted)

-- a row among these has the row's key and this number
pub record HoldsKey (schema : SchemaShape) (numbered : List Numbered) (row : List Value) (seq : ℕ) : Type 0 where
  pub found : Numbered
  pub among : Contains numbered found
  pub same_key : key_of schema found.row ≡ key_of schema row
  pub number : found.seq ≡ seq

-- all but the rows and their next number
abbrev pub rest_of : Opening → Opening
rest_of held = record held { next = 0; rows = [] }

-- what is held with one row more, under the next number and the newest version
abbrev pub with_row : Opening → List Value → Opening
with_row held row = record held { next = held.next + 1; rows = held.rows ++ record { seq = held.next; ver = newest_version held.schemas; row = row } ∷ [] }

-- what is held under one change more
abbrev pub with_change : Opening → Change → Opening
with_change held change = record held { schemas = record { first = held.schemas.first; changes = held.schemas.changes ++ change ∷ [] } }

-- no verdict refuses the row: it passes, is unexpired, its key is new, and a number is left
pub record MayAdd (held : Opening) (row : List Value) (now : ℕ) : Type 0 where
  pub passes : Passes (newest held.schemas) row
  pub unexpired : bound_at held.ttl held.low now ≤ time_of held.schemas.first row
  pub new_key : All (λ (other : Numbered). key_of held.schemas.first other.row ≢ key_of held.schemas.first row) held.rows
  pub room : held.next < 2 ^ 62
