use Rattle.std.proofs.Common.{ℕ, ◌+◌, ◌<◌, drop}
use Rattle.lt_plan.specs.Merging.{BeginsARun}
use Rattle.lt_plan.proofs.planning.first_begin.Given as goal

-- no run begins with a pair that was looked at
abbrev pub invariant-loop-at : goal.invariant-loop-at
invariant-loop-at l = (i : ℕ) → i + 1 < l.at → ¬ BeginsARun l.now (drop i l.list)
