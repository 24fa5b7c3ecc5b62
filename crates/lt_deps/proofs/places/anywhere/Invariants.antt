use Rattle.std.proofs.Common.{◌≢◌, ℕ, ◌<◌, get_or}
use Rattle.lt_deps.proofs.places.anywhere.Given as goal

-- none of the tablets so far is the one
abbrev pub invariant-loop-place : goal.invariant-loop-place
invariant-loop-place l = (k : ℕ) → k < l.place → get_or l.tablets k 0 ≢ l.fn.tablet
