use Rattle.std.proofs.Common.{◌≡◌, take}
use Rattle.std.specs.Prelude.{map}
use Rattle.lt_schema.specs.Versions.{widened}
use Rattle.lt_schema.proofs.changing.widened_columns.Given as goal

-- the columns so far are widened
abbrev pub invariant-loop-column : goal.invariant-loop-column
invariant-loop-column l = l.wide.items ≡ map (widened l.name) (take l.column-index l.columns)
