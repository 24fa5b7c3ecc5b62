use Rattle.std.proofs.Common.{◌≢◌, ℕ, ◌<◌, get_or}
use Rattle.lt_mem.specs.Rising.{NoneHas}
use Rattle.lt_state.specs.State.{Filled}
use Rattle.lt_memory.proofs.seek.find_beside.Given as goal

-- none of the tablets so far, but the one at the place, has the key
abbrev pub invariant-loop-at : goal.invariant-loop-at
invariant-loop-at l = (k : ℕ) (d : Filled) → k < l.at → k ≢ l.place → NoneHas (get_or l.tablets k d).recs l.key
