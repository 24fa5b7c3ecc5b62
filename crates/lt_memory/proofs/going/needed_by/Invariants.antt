use Rattle.lt_memory.proofs.Numbers.{Collects}
use Rattle.lt_memory.proofs.going.needed_by.Given as goal

abbrev pub invariant-loop-step : goal.invariant-loop-step
invariant-loop-step l = Collects l.deps l.named l.needed.items l.step
