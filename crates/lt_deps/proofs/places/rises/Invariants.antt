use Rattle.std.proofs.Common.{◌+◌, ◌<◌, ℕ, get_or}
use Rattle.lt_deps.proofs.places.rises.Given as goal

-- the numbers so far rise
abbrev pub invariant-loop-next : goal.invariant-loop-next
invariant-loop-next l = (k : ℕ) → k + 1 < l.next → get_or l.tablets k 0 < get_or l.tablets (k + 1) 0
