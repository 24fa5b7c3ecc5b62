use Rattle.std.proofs.Common.{◌≡◌, take}
use Rattle.lt_schema.proofs.row_view.RowView.to_row.Given as goal

-- the values so far are copied
abbrev pub invariant-loop-at : goal.invariant-loop-at
invariant-loop-at l = l.values.items ≡ take l.at l.self
