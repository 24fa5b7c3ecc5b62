use Rattle.std.proofs.Common.{take}
use Rattle.lt_memory.specs.Sharing.{TopOf}
use Rattle.lt_memory.proofs.sharing.top_of.Given as goal

abbrev pub invariant-loop-tablet : goal.invariant-loop-tablet
invariant-loop-tablet l = TopOf (take l.tablet-index l.tablets) l.parts l.top
