-- What the calls of a device have in common.
use Rattle.std.specs.Prelude.{◌≡◌, ◌≢◌, ◌⊎◌, ℕ, ◌≤◌, List, [], ◌∷◌, ◌++◌, Some, None, Result, OnOk, OnErr, IsErrOf}
use Rattle.lt_io.specs.Cause.{Rose}
use Rattle.lt_io.specs.Directory.{State, Image, Directory, Fits, file_at, entered, loosened, pointed, settled}
use Rattle.lt_io.specs.declared.device_error.DeviceError.{DeviceError}
use Rattle.lt_io.specs.declared.device_error.DeviceError.TheVariants.{Failed}

-- the count never falls, and it rose where the call failed
pub record Counts (before now : ℕ) (Fails : Type 0) : Type 0 where
  pub later : before ≤ now
  pub failed : Fails → Rose before now

-- what is lent stays as it was
pub record KeepsLent (old new : Directory) : Type 0 where
  pub ceiling : new.now.ceiling ≡ old.now.ceiling
  pub lends : new.lends ≡ old.lends

-- a moment went by: the states before it stay, the new one is `next`, and what a read gives is possible in it
pub record Moves (old new : Directory) (next : State) : Type 0 where
  pub past : new.past ≡ old.past ++ old.now ∷ []
  pub now : new.now ≡ next
  pub possible : Fits new.seen new.now

-- a read gives the same descriptor and the same of each other file
pub record SeesOthers (old new : Image) (number : ℕ) : Type 0 where
  pub descriptor : new.descriptor ≡ old.descriptor
  pub others : (other : ℕ) → other ≢ number → file_at new.files other ≡ file_at old.files other

-- `enter`: from Ok on each image has the file; after `Failed` nothing is known of it
pub record EntersFile (old new : Directory) (number : ℕ) (bytes : List ℕ) (result : Result (Unit {0}) DeviceError) : Type 0 where
  pub ok : OnOk result (Moves old new (entered old.now number bytes))
  pub failed : IsErrOf result Failed → Moves old new (loosened old.now number)
  pub others : SeesOthers old.seen new.seen number

-- `remove`: nothing is known of the file any more. After Ok a read doesn't give it, and after `Failed` neither where it was
-- not there before.
pub record RemovesFile (old new : Directory) (number : ℕ) (result : Result (Unit {0}) DeviceError) : Type 0 where
  pub ok : OnOk result (Moves old new (loosened old.now number))
  pub failed : IsErrOf result Failed → Moves old new (loosened old.now number)
  pub gone : OnOk result (file_at new.seen.files number ≡ None)
  pub none : file_at old.seen.files number ≡ None → file_at new.seen.files number ≡ None
  pub others : SeesOthers old.seen new.seen number

-- `point`: the bytes join the possible descriptors; a read gives them after Ok, and the old descriptor or them after `Failed`
pub record PointsAt {E : Type 0} (old new : Directory) (bytes : List ℕ) (result : Result (Unit {0}) E) : Type 0 where
  pub joined : Moves old new (pointed old.now bytes)
  pub current : OnOk result (new.seen.descriptor ≡ Some bytes)
  pub either : OnErr result ((new.seen.descriptor ≡ old.seen.descriptor) ⊎ (new.seen.descriptor ≡ Some bytes))
  pub files : new.seen.files ≡ old.seen.files

-- `settle`: after Ok the descriptor that a read gives is the only possible one; after `Failed` all that were possible are
pub record Settles {E : Type 0} (old new : Directory) (result : Result (Unit {0}) E) : Type 0 where
  pub ok : OnOk result (Moves old new (settled old.now old.seen.descriptor))
  pub failed : OnErr result (Moves old new old.now)
  pub seen : new.seen ≡ old.seen
