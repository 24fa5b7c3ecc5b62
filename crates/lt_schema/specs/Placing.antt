-- Rows whose values lie one behind the other.
use Rattle.std.specs.Prelude.{ℕ, ◌+◌, ◌≤◌, List, drop, map}
use Rattle.lt_schema.specs.declared.value.Value.{Value}
use Rattle.lt_schema.specs.declared.rows.Place.{Place}
use Rattle.lt_schema.specs.Packing.{part}

-- the row at a place among values
abbrev pub row_in : List Value → Place → List Value
row_in values place = part place.from place.len values

-- a place's values are among the first so many
abbrev pub EndsBy : ℕ → Place → Type 0
EndsBy end place = place.from + place.len ≤ end

-- rows that are whole, and the values of the row that was begun
pub record RowsSoFar : Type 0 where
  pub rows : List (List Value)
  pub row : List Value

-- the rows at these places, and the values from a place on
abbrev pub so_far : List Value → List Place → ℕ → RowsSoFar
so_far values places begin = record { rows = map (row_in values) places; row = drop begin values }
