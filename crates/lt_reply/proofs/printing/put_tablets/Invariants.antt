use Rattle.std.proofs.Common.{◌≡◌, ◌++◌, take, codes, decimal, length}
use Rattle.std.specs.List.{flat_map}
use Rattle.lt_reply.specs.Texts.{line_of, tablet_line}
use Rattle.lt_reply.proofs.printing.put_tablets.Given as goal

-- so far the lines of the first ones stand behind the count
abbrev pub invariant-loop-tablet : goal.invariant-loop-tablet
invariant-loop-tablet l = l.out.items ≡ l.fn.out.items ++ (line_of (codes "tablets " ++ decimal (length l.listing)) ++ flat_map tablet_line (take l.tablet-index l.listing))
