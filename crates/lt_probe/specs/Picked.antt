-- The last record with the greatest timestamp among some of a list.
use Rattle.std.specs.Prelude.{◌≡◌, ◌⊎◌, ℕ, ◌<◌, ◌≤◌, List, slice_index_or}
use Rattle.lt_rec.specs.Record.{Record}

-- each of the records has a timestamp below this
abbrev pub AllEarlier : List Record → ℕ → ℕ → ℕ → Type 0
AllEarlier recs from to since = (k : ℕ) (d : Record) → from ≤ k → k < to → (slice_index_or recs k d).ts < since

-- the record at the place isn't earlier than `since`, and each other one is earlier than it, or as late and before it
pub record IsPicked (recs : List Record) (from to since place : ℕ) : Type 0 where
  pub above : from ≤ place
  pub below : place < to
  pub late : (d : Record) → since ≤ (slice_index_or recs place d).ts
  pub latest : (k : ℕ) (d : Record) → from ≤ k → k < to → ((slice_index_or recs k d).ts < (slice_index_or recs place d).ts) ⊎ (((slice_index_or recs k d).ts ≡ (slice_index_or recs place d).ts) × (k ≤ place))
