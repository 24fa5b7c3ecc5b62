use Rattle.std.proofs.Common.{◌≡◌, ◌++◌, map, take, drop}
use Rattle.lt_memory.specs.Inserting.{filled_up}
use Rattle.lt_memory.proofs.take.fill_up.Given as goal

abbrev pub invariant-loop-tablet : goal.invariant-loop-tablet
invariant-loop-tablet l = l.tablets ≡ map (filled_up l.fn.period) (take l.tablet-index l.fn.tablets) ++ drop l.tablet-index l.fn.tablets
