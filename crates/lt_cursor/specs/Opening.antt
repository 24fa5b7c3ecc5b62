-- What is left of each source of a cursor that begins.
use Rattle.std.specs.Prelude.{Bool, List, filter, map}
use Rattle.std.specs.List.{All}
use Rattle.lt_rec.specs.Record.{Record}
use Rattle.lt_rec.specs.Boxes.{in_box}
use Rattle.lt_rec.specs.declared.raw_box.RawBox.{RawBox}
use Rattle.lt_tablet.specs.Loaded.{Loaded, records_in}
use Rattle.lt_cursor.specs.Order.{in_order, IsInOrder}

abbrev pub lefts_of_tablets : RawBox → Bool → List Loaded → List (List Record)
lefts_of_tablets raw_box down tablets = map (λ t. filter (in_box raw_box) (in_order down (records_in t))) tablets

abbrev pub lefts_of_lists : RawBox → List (List Record) → List (List Record)
lefts_of_lists raw_box mems = map (filter (in_box raw_box)) mems

-- the records of each tablet are in the order of reading
abbrev pub AreInOrder : Bool → List Loaded → Type 0
AreInOrder down tablets = All (λ t. IsInOrder down (in_order down (records_in t))) tablets
