-- Tablets by number, and those that are due.
use Rattle.std.specs.Prelude.{ℕ, ◌≡◌, ◌+◌, Bool, true, ◌||◌, nat_le, List, map}
use Rattle.lt_rec.specs.Closure.{has}
use Rattle.lt_state.specs.State.{Filled}

abbrev pub numbers_of : List Filled → List ℕ
numbers_of tablets = map (λ t. t.number) tablets

-- how long a tablet waits after its first row, in microseconds: ten minutes
abbrev pub longest_wait : ℕ
longest_wait = 600000000

-- it is full, or its first row came so long before the moment
abbrev pub is_due : ℕ → Filled → Bool
is_due now t = t.full || nat_le (t.since + longest_wait) now

-- the other numbers have all of these
abbrev pub HasAll : List ℕ → List ℕ → Type 0
HasAll some others = (n : ℕ) → has some n ≡ true → has others n ≡ true
