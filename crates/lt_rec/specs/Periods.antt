-- Periods of time: four hours, a day or a week, in microseconds since the Unix epoch.
use Rattle.std.specs.Prelude.{◌≡◌, ℕ, ◌+◌, ◌%◌, ◌<◌, ◌≤◌, Bool, ◌||◌, ◌==◌, IsTrue}

-- where a period starts, and how long it is
pub record Stretch : Type 0 where
  pub start : ℕ
  pub len : ℕ

abbrev pub four_hours : ℕ
four_hours = 14400000000

abbrev pub a_day : ℕ
a_day = 86400000000

abbrev pub a_week : ℕ
a_week = 604800000000

abbrev pub is_period_len : ℕ → Bool
is_period_len len = (len == four_hours) || (len == a_day) || (len == a_week)

-- a period has one of the three lengths, and starts at a multiple of it
pub record IsPeriod (p : Stretch) : Type 0 where
  pub length : IsTrue (is_period_len p.len)
  pub aligned : p.start % p.len ≡ 0

-- the moment lies in the period, whose end belongs to the next one
pub record InPeriod (p : Stretch) (ts : ℕ) : Type 0 where
  pub begun : p.start ≤ ts
  pub not_over : ts < p.start + p.len
