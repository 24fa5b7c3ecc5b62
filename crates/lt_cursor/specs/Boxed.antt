-- The records of a box over several sources.
use Rattle.std.specs.Prelude.{ℕ, Bool, true, false, ◌&&◌, List, ◌++◌, map, count_by}
use Rattle.std.specs.List.{sum_by}
use Rattle.lt_rec.specs.Record.{Record}
use Rattle.lt_rec.specs.Records.{joined}
use Rattle.lt_rec.specs.declared.raw_box.RawBox.{RawBox}
use Rattle.lt_tablet.specs.Loaded.{Loaded, records_in, times_meet, may_have}

-- the records of all sources; those of tablets only where the device tells them
abbrev pub gathered : Bool → List Loaded → List (List Record) → List Record
gathered true tablets mems = joined (map records_in tablets) ++ joined mems
gathered false tablets mems = joined mems

-- how many blocks of a tablet may have records of the box: those of its index range
abbrev pub range_len : RawBox → Loaded → ℕ
range_len raw_box t = count_by (λ e. times_meet raw_box t.listed && may_have raw_box e) t.index

abbrev pub range_lens : RawBox → List Loaded → ℕ
range_lens raw_box tablets = sum_by (range_len raw_box) tablets
