-- What the calls of an anchor make of a directory, one moment after another.
use Rattle.std.specs.Prelude.{◌≡◌, ◌⊎◌, ◌≤◌, ◌+◌, ℕ, List, Option, Some, Contains}
use Rattle.lt_io.specs.Device.{KeepsLent}
use Rattle.lt_io.specs.Directory.{State, Directory, file_at, pointed, settled, raised}

-- while a directory is opened: the files stand, and each possible descriptor was possible before
pub record Narrows (before after : State) : Type 0 where
  pub files : after.files ≡ before.files
  pub ceiling : after.ceiling ≡ before.ceiling
  pub possible : (descriptor : Option (List ℕ)) → Contains after.may descriptor → Contains before.may descriptor

-- while a descriptor is replaced: the files stand, the number may be lent, and each possible descriptor was possible before
-- or is the new one
pub record Replaces (number : ℕ) (bytes : List ℕ) (before after : State) : Type 0 where
  pub files : after.files ≡ before.files
  pub ceiling : (after.ceiling ≡ before.ceiling) ⊎ (after.ceiling ≡ number + 1)
  pub no_lower : before.ceiling ≤ after.ceiling
  pub old_or_new : (descriptor : Option (List ℕ)) → Contains after.may descriptor → Contains before.may descriptor ⊎ (descriptor ≡ Some bytes)
  pub joined : (after.may ≡ before.may) ⊎ Contains after.may (Some bytes)

-- while files are swept: those that are not to go stand, none comes, and the possible descriptors stay
pub record Sweeps (goes : ℕ → Type 0) (before after : State) : Type 0 where
  pub stands : (number : ℕ) (bytes : List ℕ) → (goes number → ⊥) → file_at before.files number ≡ Some bytes → file_at after.files number ≡ Some bytes
  pub stood : (number : ℕ) (bytes : List ℕ) → file_at after.files number ≡ Some bytes → file_at before.files number ≡ Some bytes
  pub may : after.may ≡ before.may
  pub ceiling : after.ceiling ≡ before.ceiling

-- the number is lent, and the bytes are possible beside what was
abbrev pub either : State → ℕ → List ℕ → State
either old number bytes = pointed (raised old (number + 1)) bytes

-- the number is lent, and the bytes alone are possible
abbrev pub replaced : State → ℕ → List ℕ → State
replaced old number bytes = settled (raised old (number + 1)) (Some bytes)

-- that number alone was lent
pub record LendsOne (number : ℕ) (old new : Directory) : Type 0 where
  pub ceiling : new.now.ceiling ≡ number + 1
  pub lends : new.lends ≡ old.lends + 1

-- that number was lent, or none
abbrev pub MayLendOne : ℕ → Directory → Directory → Type 0
MayLendOne number old new = KeepsLent old new ⊎ LendsOne number old new
