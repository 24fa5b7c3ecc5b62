-- What a making of a table owes: how it ended and why, what it leaves, and what it tells.
use Rattle.std.specs.Prelude.{◌≡◌, ◌⊎◌, ◌^◌, ◌+◌, ◌≤◌, ◌<◌, ◌∷◌, [], ⊤, ℕ, Bool, true, List, Option, None, IsSome, Result, OnOk, IfErr, MatchResult, codes}
use Rattle.lt_io.specs.Device.{KeepsLent}
use Rattle.lt_io.specs.Directory.{Image, Directory, PossibleAt, moment}
use Rattle.lt_io.specs.Steps.{Steps}
use Rattle.lt_reply.specs.Texts.{line_of}
use Rattle.lt_schema.specs.Shapes.{SchemaShape}
use Rattle.lt_json.specs.FromJson.{SaysSchema, IsCause as IsSchemaCause}
use Rattle.lt_commit.specs.Anchored.{NothingNew}
use Rattle.lt_commit.specs.Begun.{OpensEmpty}
use Rattle.lt_commit.specs.Moments.{Narrows, LendsOne, MayLendOne}
use Rattle.lt_commit.specs.declared.errors.CreateError.{CreateError}
use Rattle.lt_commit.specs.declared.errors.CreateError.TheVariants as create
use Rattle.lt_serve.specs.Status.{making_status, IsToldAs}
use Rattle.lt_serve.specs.Output.{WritesWhole}
use Rattle.lt_serve.specs.declared.status.Status.{Status}
use Rattle.lt_serve.specs.declared.refusals.MakeError.{MakeError}
use Rattle.lt_serve.specs.declared.refusals.MakeError.TheVariants as making

-- the text says a schema
abbrev pub SaysOne : List ℕ → Type 0
SaysOne text = (schema : SchemaShape) × SaysSchema text schema

-- the image opens to the empty table of the schema that the text says, with this time to live
pub record OpensToMade (text : List ℕ) (ttl : Option ℕ) (image : Image) : Type 0 where
  pub schema : SchemaShape
  pub says : SaysSchema text schema
  pub opens : OpensEmpty schema ttl image

-- from the start on each image that a stop may leave has no descriptor, or opens to the table
abbrev pub NoneOrMade : List ℕ → Option ℕ → Directory → Directory → Type 0
NoneOrMade text ttl old new = (at : ℕ) (image : Image) → moment old ≤ at → PossibleAt new at image → (image.descriptor ≡ None) ⊎ OpensToMade text ttl image

-- now each opens to the table
abbrev pub AllMade : List ℕ → Option ℕ → Directory → Type 0
AllMade text ttl new = (image : Image) → PossibleAt new (moment new) image → OpensToMade text ttl image

-- a table may be made: the text says a schema, and where the directory tells, it has no descriptor and a free file number
pub record MayMake (honest : Bool) (text : List ℕ) (old : Directory) : Type 0 where
  pub says : SaysOne text
  pub none : honest ≡ true → old.seen.descriptor ≡ None
  pub room : honest ≡ true → old.now.ceiling < 2 ^ 62

-- no number is left in a directory without a descriptor
pub record IsFull (old : Directory) : Type 0 where
  pub none : old.seen.descriptor ≡ None
  pub full : 2 ^ 62 ≤ old.now.ceiling

-- why the directory took no table
abbrev pub IsCreateCause : Bool → Directory → CreateError → Type 0
IsCreateCause honest old create.Exists = honest ≡ true → IsSome old.seen.descriptor
IsCreateCause honest old create.Spent = honest ≡ true → IsFull old
IsCreateCause honest old create.Fault = ⊤
IsCreateCause honest old create.NoMemory = ⊤

-- why no table was made
abbrev pub IsMakingCause : Bool → List ℕ → Directory → MakeError → Type 0
IsMakingCause honest text old (making.Schema why) = IsSchemaCause text why
IsMakingCause honest text old (making.Create why) = SaysOne text × IsCreateCause honest old why

-- nothing was lent, entered, removed or pointed at; a descriptor that was possible may have become the only one
pub record LeavesAll (honest : Bool) (old new : Directory) : Type 0 where
  pub any_moment : honest ≡ true → Steps Narrows old new
  pub images : honest ≡ true → NothingNew old new
  pub seen : honest ≡ true → new.seen ≡ old.seen
  pub lent : KeepsLent old new

-- what a making leaves that came to nothing
abbrev pub LeavesUnmade : Bool → Directory → Directory → MakeError → Type 0
LeavesUnmade honest old new (making.Schema why) = new ≡ old
LeavesUnmade honest old new (making.Create create.Exists) = LeavesAll honest old new
LeavesUnmade honest old new (making.Create create.Spent) = LeavesAll honest old new
LeavesUnmade honest old new (making.Create create.Fault) = honest ≡ true → MayLendOne old.now.ceiling old new
LeavesUnmade honest old new (making.Create create.NoMemory) = honest ≡ true → MayLendOne old.now.ceiling old new

-- The directory after a making, by how it ended.
pub record Makes (honest : Bool) (text : List ℕ) (ttl : Option ℕ) (old new : Directory) (made : Result (Unit {0}) MakeError) : Type 0 where
  -- which text and which directory
  pub ready : OnOk made (MayMake honest text old)
  pub cause : IfErr made (IsMakingCause honest text old)
  -- what a stop may leave where there was no descriptor: none, or the empty table; and once it is made, the table
  pub none_or_made : honest ≡ true → old.now.may ≡ None ∷ [] → NoneOrMade text ttl old new
  pub all_made : honest ≡ true → OnOk made (AllMade text ttl new)
  -- what a refusal leaves, and which file number was used up: the first free one at most
  pub unmade : IfErr made (LeavesUnmade honest old new)
  pub number : honest ≡ true → OnOk made (LendsOne old.now.ceiling old new)
  pub lends : MatchResult made (λ done. new.lends ≡ old.lends + 1) (λ why. new.lends ≤ old.lends + 1)

-- that the table is made is written; a refusal is told by its status
abbrev pub TellsMaking : Result (Unit {0}) MakeError → Status → Option (List ℕ) → Option (List ℕ) → ℕ → ℕ → Type 0
TellsMaking made status held then before now = MatchResult made (λ done. WritesWhole status (line_of (codes "created")) held then before now) (λ why. IsToldAs (making_status why) status)

-- What a making of a table owes: it ended in one way, which left that of the directory, and is told.
pub record OwesTable (honest : Bool) (text : List ℕ) (ttl : Option ℕ) (old new : Directory) (held then : Option (List ℕ)) (before now : ℕ) (status : Status) : Type 0 where
  pub made : Result (Unit {0}) MakeError
  pub leaves : Makes honest text ttl old new made
  pub told : TellsMaking made status held then before now

-- the text was refused before any call of the device
abbrev pub IsTextRefusal : MakeError → Type 0
IsTextRefusal (making.Schema why) = ⊤
IsTextRefusal (making.Create why) = ⊥
