-- What publishing a stone by the next free file number leaves.
use Rattle.std.specs.Prelude.{ℕ, ◌≡◌, ◌⊎◌, ◌+◌, Bool, true, [], ◌∷◌, ◌++◌, Some, Ok, Result, OnOk, IsErrOf}
use Rattle.lt_io.specs.Directory.{lent}
use Rattle.lt_io.specs.Steps.{Steps}
use Rattle.lt_desc.specs.Shape.{StoneShape}
use Rattle.lt_desc.specs.Reading.{stone_at}
use Rattle.lt_desc.specs.Spelling.{spelling}
use Rattle.lt_commit.specs.Anchored.{Anchored, IsAnchored}
use Rattle.lt_commit.specs.Moments.{Replaces}
use Rattle.lt_commit.specs.declared.errors.CommitError.{CommitError}
use Rattle.lt_commit.specs.declared.errors.CommitError.TheVariants as commit

-- After Ok the stone is the only possible one; after a fault it may be possible beside the others; for want of memory the
-- number was lent and nothing else was done.
pub record Publishes (told : Bool) (file : ℕ) (stone : StoneShape) (before after : Anchored) (result : Result (Unit {0}) CommitError) : Type 0 where
  pub was : IsAnchored told before
  pub is : IsAnchored told after
  pub any_moment : told ≡ true → Steps (Replaces file (spelling stone)) before.directory after.directory
  pub readable : told ≡ true → (after.directory ≡ lent before.directory file) ⊎ (stone_at (spelling stone) ≡ Ok stone)
  pub ok : OnOk result (after.may ≡ Some stone ∷ [])
  pub fault : IsErrOf result commit.Fault → (after.may ≡ before.may) ⊎ (after.may ≡ before.may ++ Some stone ∷ [])
  pub no_memory : IsErrOf result commit.NoMemory → after.may ≡ before.may
  pub only_lent : told ≡ true → IsErrOf result commit.NoMemory → after.directory ≡ lent before.directory file
  pub never_spent : IsErrOf result commit.Spent → ⊥
  pub ceiling : after.directory.now.ceiling ≡ file + 1
  pub lends : after.directory.lends ≡ before.directory.lends + 1
