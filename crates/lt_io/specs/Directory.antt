-- What a directory is: what a stop may leave of it at each moment, and what a read gives now.
use Rattle.std.specs.Prelude.{◌≡◌, ◌≤◌, ◌+◌, ℕ, not, nat_eq, List, [], ◌∷◌, ◌++◌, filter, length, slice_get, Option, Some, None, Contains}
use Rattle.std.specs.Map.{lookup}

-- files: their numbers, each with its bytes
abbrev pub Contents : Type 0
Contents = List (ℕ × List ℕ)

-- the bytes of the file with that number, where it is there
abbrev pub file_at : Contents → ℕ → Option (List ℕ)
file_at files number = lookup (nat_eq number) files

-- the other files
abbrev pub without : ℕ → Contents → Contents
without number files = filter (λ file. not (nat_eq file.0 number)) files

-- What stands for good at a moment: the files that were entered and not removed, the possible descriptors in the
-- order in which they joined (None for 'no descriptor'), and the ceiling, which is above each number that was lent.
pub record State : Type 0 where
  pub files : Contents
  pub may : List (Option (List ℕ))
  pub ceiling : ℕ

-- a whole directory: the files that are there and the descriptor
pub record Image : Type 0 where
  pub files : Contents
  pub descriptor : Option (List ℕ)

-- a stop at a moment of that state may leave the image: each other file below the ceiling is absent or has any bytes
pub record Fits (image : Image) (state : State) : Type 0 where
  pub entered : (number : ℕ) (bytes : List ℕ) → file_at state.files number ≡ Some bytes → file_at image.files number ≡ Some bytes
  pub absent : (number : ℕ) → state.ceiling ≤ number → file_at image.files number ≡ None
  pub descriptor : Contains state.may image.descriptor

-- the states of the past moments, the oldest first, and the present one; what a read gives now; how often a number was lent
pub record Directory : Type 0 where
  pub past : List State
  pub now : State
  pub seen : Image
  pub lends : ℕ

-- the states of all moments, counted from 0; the present one is last
abbrev pub states : Directory → List State
states directory = directory.past ++ directory.now ∷ []

-- the number of the present moment
abbrev pub moment : Directory → ℕ
moment directory = length directory.past

-- a stop at that moment may leave, or might have left, the image
pub record PossibleAt (directory : Directory) (at : ℕ) (image : Image) : Type 0 where
  pub state : State
  pub stood : slice_get (states directory) at ≡ Some state
  pub fits : Fits image state

-- the state once a file is entered
abbrev pub entered : State → ℕ → List ℕ → State
entered state number bytes = record state { files = (number, bytes) ∷ without number state.files }

-- the state once nothing is known of a file
abbrev pub loosened : State → ℕ → State
loosened state number = record state { files = without number state.files }

-- the state once a descriptor joined the possible ones
abbrev pub pointed : State → List ℕ → State
pointed state bytes = record state { may = state.may ++ Some bytes ∷ [] }

-- the state once a descriptor is the only possible one
abbrev pub settled : State → Option (List ℕ) → State
settled state descriptor = record state { may = descriptor ∷ [] }

-- the state once the numbers below the ceiling are lent
abbrev pub raised : State → ℕ → State
raised state ceiling = record state { ceiling = ceiling }

-- the directory once a number was lent: no moment goes by
abbrev pub lent : Directory → ℕ → Directory
lent directory number = record directory { now = raised directory.now (number + 1); lends = directory.lends + 1 }
