-- What a scan and a look-up of the latest row show, of a front of the history alone.
use Rattle.std.specs.Prelude.{ℕ, ◌≡◌, ◌<◌, ◌↔◌, ◌⊎◌, Bool, ◌&&◌, List, [], length, take, map, filter, nat_le, IsTrue, IsSorted, IsPermutation, Contains, Option, Some, None, if◌then◌else◌}
use Rattle.std.specs.Ordering.{is_eq, is_le}
use Rattle.std.specs.declared.cmp.Ordering.{Ordering}
use Rattle.lt_schema.specs.declared.value.Value.{Value}
use Rattle.lt_schema.specs.Shapes.{SchemaShape}
use Rattle.lt_schema.specs.Values.{key_cmp, leading_cmp}
use Rattle.lt_schema.specs.Versions.{lift_to_newest}
use Rattle.lt_schema.specs.Check.{key_of}
use Rattle.lt_command.specs.declared.query.Query.{Query}
use Rattle.lt_model.specs.History.{Numbered, History}
use Rattle.lt_model.specs.Readings.{rows, schemas, key_in, time_in}
use Rattle.lt_model.specs.Boxes.{in_box}

-- a row under the newest schema
abbrev pub newest_form : History → Numbered → List Value
newest_form h numbered = lift_to_newest (schemas h) numbered.row numbered.ver

-- the box's rows that are unexpired at a bound, under the newest schema
abbrev pub matching : History → Query → ℕ → List (List Value)
matching h query since = map (newest_form h) (filter (λ numbered. in_box h query numbered && nat_le since (time_in h numbered)) (rows h))

-- rows by key, or the other way round
abbrev pub row_cmp : SchemaShape → Bool → List Value → List Value → Ordering
row_cmp schema down a b = if down then key_cmp (key_of schema b) (key_of schema a) else key_cmp (key_of schema a) (key_of schema b)

-- The matching rows in key order: the first of them are shown, up to the limit, and more says that there are others.
pub record IsAnswer (h : History) (query : Query) (since : ℕ) (shown : List (List Value)) (more : Bool) : Type 0 where
  pub sorted : List (List Value)
  pub all_of_them : IsPermutation (matching h query since) sorted
  pub in_order : IsSorted (row_cmp h.opening.schemas.first query.down) sorted
  pub first_ones : shown ≡ take query.limit sorted
  pub others : IsTrue more ↔ (query.limit < length sorted)

-- the row's key begins with these values, and it is unexpired at the bound
abbrev pub is_candidate : History → List Value → ℕ → Numbered → Bool
is_candidate h prefix since numbered = is_eq (leading_cmp prefix (key_in h numbered)) && nat_le since (time_in h numbered)

-- a is not above b by timestamp, and among equals by key
abbrev pub IsNoLater : History → Numbered → Numbered → Type 0
IsNoLater h a b = (time_in h a < time_in h b) ⊎ ((time_in h a ≡ time_in h b) × IsTrue (is_le (key_cmp (key_in h a) (key_in h b))))

-- a candidate that no other is later than
pub record IsLatestOf (h : History) (prefix : List Value) (since : ℕ) (row : List Value) : Type 0 where
  pub found : Numbered
  pub among : Contains (rows h) found
  pub candidate : IsTrue (is_candidate h prefix since found)
  pub greatest : (other : Numbered) → Contains (rows h) other → IsTrue (is_candidate h prefix since other) → IsNoLater h other found
  pub lifted : row ≡ newest_form h found

abbrev pub IsLatest : History → List Value → ℕ → Option (List Value) → Type 0
IsLatest h prefix since None = filter (is_candidate h prefix since) (rows h) ≡ []
IsLatest h prefix since (Some row) = IsLatestOf h prefix since row
