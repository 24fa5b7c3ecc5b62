-- What a file in memory is, while it is written and once it is sealed.
use Rattle.std.specs.Prelude.{ℕ, List}

pub record Written : Type 0 where
  pub number : ℕ
  pub bytes : List ℕ
