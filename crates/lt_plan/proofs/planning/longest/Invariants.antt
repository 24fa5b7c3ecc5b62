use Rattle.std.proofs.Common.{◌≡◌, ◌≤◌, take, All}
use Rattle.lt_plan.specs.Merging.{IsAtHome, bytes_of, most_bytes}
use Rattle.lt_plan.proofs.planning.longest.Given as goal

-- the tablets so far are at home, and their bytes are counted and within the most
abbrev pub invariant-loop-at : goal.invariant-loop-at
invariant-loop-at l = record {
  at_home : All (IsAtHome l.now l.home) (take l.at l.list);
  counted : l.bytes ≡ bytes_of (take l.at l.list);
  within : l.bytes ≤ most_bytes;
}
