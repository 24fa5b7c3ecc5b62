-- What a loading finds.
use Rattle.std.specs.Prelude.{◌≡◌, ℕ, Bool, true, List, [], ◌∷◌, Some, Option, Ok, MatchOption}
use Rattle.lt_io.specs.Directory.{Directory}
use Rattle.lt_desc.specs.Shape.{StoneShape}
use Rattle.lt_desc.specs.Reading.{stone_at}
use Rattle.lt_desc.specs.Spelling.{spelling}
use Rattle.lt_model.specs.History.{Opening}
use Rattle.lt_serve.specs.Session.{HasOtherLine}
use Rattle.lt_serve.specs.Loaded.{opening_of, IsLoadedFrom, first_free}
use Rattle.lt_serve.specs.Made.{LeavesAll}
use Rattle.lt_serve.specs.Growing.{Meter, AnswersFront}
use Rattle.lt_serve.specs.declared.refusals.SessionError.{SessionError}
use Rattle.lt_serve.specs.declared.refusals.SessionError.TheVariants.{Load, NotYet, NoMemory}

-- the stone lists no tablet, and this is its table
abbrev pub IsTableOf : StoneShape → Opening → Type 0
IsTableOf stone held = (stone.tablets ≡ []) × (held ≡ opening_of stone)

-- the stone's table, or none where it lists a tablet
abbrev pub FindsTable : StoneShape → Option Opening → Type 0
FindsTable stone found = MatchOption found (stone.tablets ≡ [] → ⊥) (IsTableOf stone)

-- The stone of the directory's descriptor lists no tablet and was made the only possible one; this is the first free file
-- number.
pub record LoadsStone (honest : Bool) (old : Directory) (stone : StoneShape) (directory : Directory) (free : ℕ) : Type 0 where
  pub loaded : IsLoadedFrom honest old stone
  pub bare : stone.tablets ≡ []
  pub read : stone_at (spelling stone) ≡ Ok stone
  pub only : honest ≡ true → directory.now.may ≡ Some (spelling stone) ∷ []
  pub leaves : LeavesAll honest old directory
  pub free_is : honest ≡ true → free ≡ first_free old stone

-- why the lines were not all answered, and what that leaves of the table
abbrev pub IsUnanswered : Bool → (ℕ → Type 0) → Opening → Opening → Meter → Meter → List ℕ → SessionError → Type 0
IsUnanswered honest clock opening held before now input (NotYet line) = HasOtherLine input line × (now.directory ≡ before.directory)
IsUnanswered honest clock opening held before now input NoMemory = AnswersFront honest clock opening held before now input
IsUnanswered honest clock opening held before now input (Load why) = ⊥
