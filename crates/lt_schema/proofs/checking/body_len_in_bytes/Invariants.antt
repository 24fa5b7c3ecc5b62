use Rattle.std.proofs.Common.{◌≡◌, ◌+◌, ◌-◌, ◌≤◌, drop}
use Rattle.std.specs.Prelude.{◌^◌}
use Rattle.lt_schema.specs.Check.{counted, len_under}
use Rattle.lt_schema.proofs.checking.body_len_in_bytes.Given as goal

-- what was counted and what is left make the whole
abbrev pub invariant-loop-at : goal.invariant-loop-at
invariant-loop-at l = (counted (l.len + len_under (drop l.at l.columns) (drop l.at l.values)) ≡ counted (len_under l.columns l.values)) × (l.len ≤ 2 ^ 64 - 1)
