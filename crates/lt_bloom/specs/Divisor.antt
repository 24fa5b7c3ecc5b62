-- What stands beside a divisor of numbers of 64 bits.
use Rattle.std.specs.Prelude.{◌≡◌, ℕ, ◌-◌, ◌/◌, ◌^◌, ◌<◌}

-- 2^64 - 1, divided by it and rounded down
pub record HasInverse (number inverse : ℕ) : Type 0 where
  pub some : 0 < number
  pub rounded : inverse ≡ (2 ^ 64 - 1) / number
