-- A sum and a number of adds that stand for a list of amounts.
use Rattle.std.specs.Prelude.{◌≡◌, ℕ, List, length}
use Rattle.std.specs.List.{sum}

pub record Counts (total adds : ℕ) (list : List ℕ) : Type 0 where
  pub total_is : total ≡ sum list
  pub adds_is : adds ≡ length list
