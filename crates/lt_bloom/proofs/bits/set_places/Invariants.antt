use Rattle.std.proofs.Common.{◌≡◌, ℕ, ◌||◌}
use Rattle.lt_bloom.specs.Filter.{is_set, is_among}
use Rattle.lt_bloom.proofs.bits.set_places.Given as goal

-- the bits of the probes so far are set
abbrev pub invariant-loop-i : goal.invariant-loop-i
invariant-loop-i l = (p : ℕ) → is_set l.bytes p ≡ (is_set l.initial.bytes p || is_among l.i l.bits l.hash p)
