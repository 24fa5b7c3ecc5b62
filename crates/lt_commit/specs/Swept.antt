-- What a sweep leaves.
use Rattle.std.specs.Prelude.{◌≡◌, ◌≤◌, ℕ, List, Some, None, Contains}
use Rattle.lt_io.specs.Directory.{State, Image, file_at}

-- what a stop may leave of that state while files go: those that are not to go, no file from the ceiling on, and one of
-- the possible descriptors
pub record IsKept (goes : ℕ → Type 0) (old : State) (image : Image) : Type 0 where
  pub files : (number : ℕ) (bytes : List ℕ) → (goes number → ⊥) → file_at old.files number ≡ Some bytes → file_at image.files number ≡ Some bytes
  pub absent : (number : ℕ) → old.ceiling ≤ number → file_at image.files number ≡ None
  pub descriptor : Contains old.may image.descriptor

-- a read gives the same descriptor and the same of each file that is not to go
pub record SeesKept (goes : ℕ → Type 0) (old new : Image) : Type 0 where
  pub descriptor : new.descriptor ≡ old.descriptor
  pub files : (number : ℕ) → (goes number → ⊥) → file_at new.files number ≡ file_at old.files number
