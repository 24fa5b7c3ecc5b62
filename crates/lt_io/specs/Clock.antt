-- What a clock that goes in steps is.
use Rattle.std.specs.Prelude.{ℕ, ◌+◌, ◌-◌, ◌*◌, ◌^◌, min}

-- its first moment, and how far each call goes on
pub record Ticking : Type 0 where
  pub start : ℕ
  pub step : ℕ

-- the moment of the call with that number, counted from 0; it stands still at the latest
abbrev pub moment_of : Ticking → ℕ → ℕ
moment_of clock call = min (clock.start + call * clock.step) (2 ^ 62 - 1)
