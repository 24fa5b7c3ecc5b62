use Rattle.std.proofs.Common.{◌≡◌, ℕ, ◌+◌, ◌-◌, ◌<◌, ◌≤◌, Bool, true, length, get_or}
use Rattle.lt_deps.proofs.places.front_of.Given as goal

-- what the places so far reach lies in the front, and whatever has these and the first one has the front
abbrev pub invariant-loop-seen : goal.invariant-loop-seen
invariant-loop-seen l = record {
  holds : l.place < l.end;
  behind : l.seen ≤ l.end;
  within : l.end ≤ length l.ahead;
  closed : (j : ℕ) → j < l.seen → j + get_or l.ahead j 0 < l.end;
  least : (p : ℕ → Bool) → ((i : ℕ) → i ≤ l.place → p i ≡ true) → ((i j : ℕ) → j < length l.ahead → p j ≡ true → i ≤ j + get_or l.ahead j 0 → p i ≡ true) → (i : ℕ) → i < l.end → p i ≡ true;
}

abbrev pub decreases-loop-seen : goal.decreases-loop-seen
decreases-loop-seen l = length l.ahead - l.seen
