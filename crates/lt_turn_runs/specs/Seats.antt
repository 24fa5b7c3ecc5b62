-- A seat that waits to take its turn, and what its own entries sum up to.
use Rattle.std.specs.Prelude.{◌≡◌, ℕ}
use Rattle.lt_turn.specs.Lists.{of}
use Rattle.lt_turn.specs.Seats.{Sitting, TurnName, IsOf, IsIdle, ended, parts, seen}

abbrev pub IsReady : Sitting ℕ → TurnName → Type 0
IsReady s turn = IsOf s turn × IsIdle s

-- the same seat later: it has seen the same of the opening, and has the same share and the same seats in its account
pub record IsLater (before after : Sitting ℕ) : Type 0 where
  pub ended_same : ended after ≡ ended before
  pub parts_same : parts after ≡ parts before
  pub opening_same : of 0 (seen after) ≡ of 0 (seen before)
