-- What is read of the tablets in memory.
use Rattle.std.specs.Prelude.{ℕ, Bool, ◌&&◌, nat_le, if◌then◌else◌, List, map, filter, take, Option, Some, None}
use Rattle.std.specs.List.{list_any}
use Rattle.lt_rec.specs.Record.{Record}
use Rattle.lt_rec.specs.Boxes.{in_box}
use Rattle.lt_rec.specs.declared.raw_box.RawBox.{RawBox}
use Rattle.lt_mem.specs.Rising.{in_order}
use Rattle.lt_state.specs.State.{Filled}

-- the span of the records' timestamps meets that of the box: one is not above its end, and one not below its beginning
abbrev pub meets_span : RawBox → List Record → Bool
meets_span raw_box recs = list_any (λ r. nat_le r.ts raw_box.to) recs && list_any (λ r. nat_le raw_box.from r.ts) recs

-- the tablet's records of the box in the order of reading, up to the limit
abbrev pub walk_of : RawBox → Bool → ℕ → Filled → List Record
walk_of raw_box down limit t = take limit (filter (in_box raw_box) (in_order down t.recs))

-- the same, where its span meets that of the box
abbrev pub walk_if : RawBox → Bool → ℕ → Filled → Option (List Record)
walk_if raw_box down limit t = if meets_span raw_box t.recs then Some (walk_of raw_box down limit t) else None

-- a list of each tablet whose span meets that of the box
abbrev pub walks_of : RawBox → Bool → ℕ → List Filled → List (List Record)
walks_of raw_box down limit tablets = map (walk_of raw_box down limit) (filter (λ t. meets_span raw_box t.recs) tablets)
