use Rattle.std.proofs.Common.{◌≡◌, ◌++◌, take}
use Rattle.std.specs.List.{flat_map}
use Rattle.lt_reply.specs.Texts.{spaced_number}
use Rattle.lt_reply.proofs.printing.put_numbers.Given as goal

-- so far the texts of the first ones stand at the end
abbrev pub invariant-loop-number : goal.invariant-loop-number
invariant-loop-number l = l.out.items ≡ l.fn.out.items ++ flat_map spaced_number (take l.number-index l.numbers)
