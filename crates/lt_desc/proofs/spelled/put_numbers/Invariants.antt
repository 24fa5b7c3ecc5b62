use Rattle.std.proofs.Common.{◌≡◌, ◌++◌, drop}
use Rattle.lt_desc.specs.Spelling.{numbers}
use Rattle.lt_desc.proofs.spelled.put_numbers.Given as goal

abbrev pub invariant-loop-number : goal.invariant-loop-number
invariant-loop-number l = l.out.items ++ numbers (drop l.number-index l.list) ≡ l.initial.out.items ++ numbers l.list
