-- What was possible at each moment since a table was opened.
use Rattle.std.specs.Prelude.{ℕ, ◌≡◌, ◌≤◌, Contains, Some, Ok}
use Rattle.lt_io.specs.Directory.{State, Image, Directory, PossibleAt}
use Rattle.lt_io.specs.Steps.{InOrderFrom}
use Rattle.lt_desc.specs.Shape.{StoneShape}
use Rattle.lt_desc.specs.Reading.{stone_at}
use Rattle.lt_desc.specs.Spelling.{spelling}
use Rattle.lt_model.specs.History.{History}
use Rattle.lt_trace.specs.Opens.{OpensAfter}

-- the stone's descriptor is possible in the state, and it is read back from it
pub record IsPossible (state : State) (stone : StoneShape) : Type 0 where
  pub among : Contains state.may (Some (spelling stone))
  pub read : stone_at (spelling stone) ≡ Ok stone

-- a stone is possible whose number is no higher than this
pub record HasNoHigher (state : State) (number : ℕ) : Type 0 where
  pub stone : StoneShape
  pub possible : IsPossible state stone
  pub no_higher : stone.kept ≤ number

-- The least number of the possible stones never fell: for each stone that is possible later there was one no higher.
abbrev pub NoLower : State → State → Type 0
NoLower before after = (stone : StoneShape) → IsPossible after stone → HasNoHigher before stone.kept

-- From that moment on each possible image opens to what a stop leaves of the history, and the least possible number never
-- fell.
pub record PastOpens (h : History) (begin : ℕ) (directory : Directory) : Type 0 where
  pub opens : (at : ℕ) (image : Image) → begin ≤ at → PossibleAt directory at image → OpensAfter h image
  pub sure : InOrderFrom begin NoLower directory
