use Rattle.std.proofs.Common.{◌≡◌, ◌++◌, take}
use Rattle.lt_layout.specs.Spelling.{numbers}
use Rattle.lt_layout.proofs.spelling.put_numbers.Given as goal

abbrev pub invariant-loop-number : goal.invariant-loop-number
invariant-loop-number l = l.out.items ≡ l.initial.out.items ++ numbers (take l.number-index l.list)
