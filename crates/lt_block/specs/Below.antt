-- Which records of a list lie below a cut, by their places.
use Rattle.std.specs.Prelude.{ℕ, Bool, List, [], slice_index_or}
use Rattle.lt_rec.specs.Boxes.{is_below}
use Rattle.lt_rec.specs.Record.{Record}
use Rattle.lt_rec.specs.declared.cut.Cut.{Cut}

-- what is past the end of a list
abbrev pub nobody : Record
nobody = record { key = []; ts = 0; seq = 0; ver = 0; body = [] }

abbrev pub below_at : Cut → List Record → ℕ → Bool
below_at cut recs k = is_below cut (slice_index_or recs k nobody).key
