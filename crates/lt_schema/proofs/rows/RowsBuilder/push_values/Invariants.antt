use Rattle.std.proofs.Common.{◌≡◌, ◌++◌, take}
use Rattle.lt_schema.proofs.rows.RowsBuilder.push_values.Given as goal

-- the values so far are pushed
abbrev pub invariant-loop-value : goal.invariant-loop-value
invariant-loop-value l = l.self ≡ record { rows = l.fn.self.rows; row = l.fn.self.row ++ take l.value-index l.values }
