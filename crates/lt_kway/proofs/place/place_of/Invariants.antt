use Rattle.std.proofs.Common.{◌≡◌, ℕ, ◌-◌, ◌<◌, ◌≤◌, true, length, get_or}
use Rattle.lt_kway.specs.Heads.{is_before}
use Rattle.lt_kway.specs.declared.head.Head.{Head}
use Rattle.lt_kway.proofs.place.place_of.Given as goal

-- all below `low` are read after the key, and all from `high` on before it
abbrev pub invariant-loop-low : goal.invariant-loop-low
invariant-loop-low l = record {
  ordered : l.low ≤ l.high;
  within : l.high ≤ length l.heads;
  later : (k : ℕ) (d : Head) → k < l.low → is_before l.down l.key (get_or l.heads k d).rec.key ≡ true;
  earlier : (k : ℕ) (d : Head) → l.high ≤ k → k < length l.heads → is_before l.down (get_or l.heads k d).rec.key l.key ≡ true;
}

abbrev pub decreases-loop-low : goal.decreases-loop-low
decreases-loop-low l = l.high - l.low
