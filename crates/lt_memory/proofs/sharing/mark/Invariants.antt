use Rattle.std.proofs.Common.{◌≡◌, ◌++◌, map, take, drop}
use Rattle.lt_memory.specs.Sharing.{frozen_in}
use Rattle.lt_memory.proofs.sharing.mark.Given as goal

abbrev pub invariant-loop-tablet : goal.invariant-loop-tablet
invariant-loop-tablet l = l.tablets ≡ map (frozen_in l.parts) (take l.tablet-index l.fn.tablets) ++ drop l.tablet-index l.fn.tablets
