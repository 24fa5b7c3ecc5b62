use Rattle.std.proofs.Common.{◌≤◌, ◌^◌}
use Rattle.lt_filedev.proofs.opening.sort_out_all.Given as goal

abbrev pub invariant-loop-entry : goal.invariant-loop-entry
invariant-loop-entry g l = l.ceiling ≤ 2 ^ 62
