use Rattle.std.proofs.Common.{◌≡◌, ◌++◌, take}
use Rattle.std.specs.List.{flat_map}
use Rattle.lt_reply.specs.Texts.{spaced_value}
use Rattle.lt_reply.proofs.values.put_row_in_place.Given as goal

-- so far the texts of the first ones stand at the end
abbrev pub invariant-loop-at : goal.invariant-loop-at
invariant-loop-at l = l.out.items ≡ l.initial.out.items ++ flat_map spaced_value (take l.at l.row)
