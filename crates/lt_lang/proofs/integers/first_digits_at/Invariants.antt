use Rattle.std.proofs.Common.{◌≡◌, ◌^◌, ◌<◌, ◌-◌, ℕ, List}
use Rattle.lt_lang.specs.Reading.{digits_at}
use Rattle.lt_lang.proofs.integers.first_digits_at.Given as goal

-- what is left to read gives what the whole gives, and so many digits spell no more
pub record SoFar (bytes : List ℕ) (number : ℕ) (rest : List ℕ) (counter : ℕ) : Type 0 where
  pub same : digits_at (19 - counter) number rest ≡ digits_at 19 0 bytes
  pub below : number < 10 ^ counter

abbrev pub invariant-loop : goal.invariant-loop
invariant-loop l = SoFar l.bytes l.number l.rest l.counter
