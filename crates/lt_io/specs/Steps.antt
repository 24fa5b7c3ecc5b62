-- What a run of calls makes of a directory: the chain of its states.
use Rattle.std.specs.Prelude.{◌≡◌, ◌≤◌, ℕ, List, [], ◌∷◌, ◌++◌, slice_get, Some}
use Rattle.lt_io.specs.Directory.{State, Directory, states, moment}

-- each state stands by R to the one before it, the first to `before`
abbrev pub Linked : (State → State → Type 0) → State → List State → Type 0
Linked R before [] = Unit {0}
Linked R before (state ∷ rest) = R before state × Linked R state rest

-- The past of `old` stays. Behind it stand the states since: the first, which has the place of `old`'s present one,
-- stands to that by R (a lend raises its ceiling), and each further one stands by R to the one before it.
pub record Steps (R : State → State → Type 0) (old new : Directory) : Type 0 where
  pub since : List State
  pub chain : states new ≡ old.past ++ since
  pub linked : Linked R old.now since
  pub later : moment old ≤ moment new

-- each state stands to itself, and what stands over two steps stands over both
pub record IsPreorder (R : State → State → Type 0) : Type 0 where
  pub itself : (state : State) → R state state
  pub further : (before state after : State) → R before state → R state after → R before after

-- P holds of each state from that moment on
abbrev pub FromOn : ℕ → (State → Type 0) → Directory → Type 0
FromOn begin P directory = (at : ℕ) (state : State) → begin ≤ at → slice_get (states directory) at ≡ Some state → P state

-- each state from that moment on stands by R to each later one
abbrev pub InOrderFrom : ℕ → (State → State → Type 0) → Directory → Type 0
InOrderFrom begin R directory = (at then : ℕ) (state after : State) → begin ≤ at → at ≤ then → slice_get (states directory) at ≡ Some state → slice_get (states directory) then ≡ Some after → R state after
