-- Which image of a moment a choice names.
use Rattle.std.specs.Prelude.{◌≡◌, ◌≤◌, ◌<◌, ◌%◌, ℕ, List, length, slice_get, Option, Some, None}
use Rattle.lt_io.specs.Directory.{State, Image, Directory, Contents, file_at, states}
use Rattle.lt_memdev.specs.declared.image.Choice.{Choice}
use Rattle.lt_memdev.specs.declared.image.Loose.{Loose}
use Rattle.lt_memdev.specs.declared.image.Loose.TheVariants.{Absent, Filled}

-- what each loose file is
abbrev pub loose_bytes : Loose → Option (List ℕ)
loose_bytes Absent = None
loose_bytes (Filled bytes) = Some bytes

-- each file below the ceiling of which nothing is known is that
abbrev pub IsAlike : Option (List ℕ) → State → Image → Type 0
IsAlike loose state image = (number : ℕ) → number < state.ceiling → file_at state.files number ≡ None → file_at image.files number ≡ loose

-- the image has the files that stand, the others as chosen, and the descriptor that is chosen of the possible ones
pub record IsChosen (state : State) (choice : Choice) (image : Image) : Type 0 where
  pub entered : (number : ℕ) (bytes : List ℕ) → file_at state.files number ≡ Some bytes → file_at image.files number ≡ Some bytes
  pub loose : IsAlike (loose_bytes choice.loose) state image
  pub absent : (number : ℕ) → state.ceiling ≤ number → file_at image.files number ≡ None
  pub descriptor : slice_get state.may (choice.which % length state.may) ≡ Some image.descriptor

-- so of the state of that moment
abbrev pub ChosenAt : Directory → ℕ → Choice → Image → Type 0
ChosenAt directory at choice image = (state : State) → slice_get (states directory) at ≡ Some state → IsChosen state choice image

-- each file of which nothing is known at that moment is that
abbrev pub AlikeAt : Directory → ℕ → Option (List ℕ) → Image → Type 0
AlikeAt directory at loose image = (state : State) → slice_get (states directory) at ≡ Some state → IsAlike loose state image

-- the same descriptor and the same files
pub record IsSame (image other : Image) : Type 0 where
  pub descriptor : image.descriptor ≡ other.descriptor
  pub files : (number : ℕ) → file_at image.files number ≡ file_at other.files number

-- what stands stays, and each number below the ceiling at which there was no file is that
pub record Fills (old new : Contents) (ceiling : ℕ) (loose : Option (List ℕ)) : Type 0 where
  pub kept : (number : ℕ) (bytes : List ℕ) → file_at old number ≡ Some bytes → file_at new number ≡ Some bytes
  pub filled : (number : ℕ) → number < ceiling → file_at old number ≡ None → file_at new number ≡ loose
  pub others : (number : ℕ) → ceiling ≤ number → file_at new number ≡ file_at old number
