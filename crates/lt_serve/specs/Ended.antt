-- What a session owes: how it ended and why, what it leaves, and what it tells.
use Rattle.std.specs.Prelude.{◌≡◌, ◌⊎◌, ◌++◌, ◌≤◌, ◌<◌, ⊤, ℕ, Bool, true, List, [], length, Option, None, Some, Err, Result, OnOk, IfOk, IfErr, IsErrOf, IfSome, MatchResult}
use Rattle.std.specs.List.{AllByRecursion}
use Rattle.std.specs.Option.{option_map}
use Rattle.std.specs.Io.KnownBytes.{IsAtEnd}
use Rattle.lt_io.specs.Directory.{Directory}
use Rattle.lt_io.specs.declared.reading.TheConstants.{INPUT_LIMIT}
use Rattle.lt_io.specs.declared.reading.ReadAllError.{ReadAllError}
use Rattle.lt_io.specs.declared.reading.ReadAllError.TheVariants as reading
use Rattle.lt_command.specs.declared.command.Line.{Line}
use Rattle.lt_command.specs.declared.reply.Reply.{Reply}
use Rattle.lt_desc.specs.Shape.{StoneShape}
use Rattle.lt_desc.specs.Reading.{stone_at}
use Rattle.lt_commit.specs.declared.errors.LoadError.{LoadError}
use Rattle.lt_commit.specs.declared.errors.LoadError.TheVariants as load
use Rattle.lt_model.specs.History.{History}
use Rattle.lt_serve.specs.Session.{lines_of, IsBuilt, HasOtherLine, IsRowOrChange, IsSessionText}
use Rattle.lt_serve.specs.Loaded.{opening_of, IsLoadedFrom}
use Rattle.lt_serve.specs.Growing.{owned, replies_of}
use Rattle.lt_serve.specs.Stops.{Carries}
use Rattle.lt_serve.specs.Made.{LeavesAll}
use Rattle.lt_serve.specs.Status.{session_status, reading_status, IsToldAs}
use Rattle.lt_serve.specs.Output.{WritesWhole}
use Rattle.lt_serve.specs.declared.refusals.SessionError.{SessionError}
use Rattle.lt_serve.specs.declared.refusals.SessionError.TheVariants as session
use Rattle.lt_serve.specs.declared.status.Status.{Status}

-- The line can't be answered yet: the loaded stone lists a tablet, which stops the first line; or it lists none, and this line
-- is the first that is another client's or asks for what isn't built.
pub record IsNotYet (honest : Bool) (old : Directory) (input : List ℕ) (line : ℕ) : Type 0 where
  pub stone : StoneShape
  pub loaded : IsLoadedFrom honest old stone
  pub why : ((stone.tablets ≡ [] → ⊥) × (line ≡ 0)) ⊎ ((stone.tablets ≡ []) × HasOtherLine input line)

-- why no table was loaded
abbrev pub IsLoadCause : Bool → Directory → LoadError → Type 0
IsLoadCause honest old load.NoTable = honest ≡ true → old.seen.descriptor ≡ None
IsLoadCause honest old (load.Bad at) = honest ≡ true → option_map stone_at old.seen.descriptor ≡ Some (Err at)
IsLoadCause honest old load.Fault = ⊤
IsLoadCause honest old load.NoMemory = ⊤

-- why a session was not answered to its end
abbrev pub IsSessionCause : Bool → List ℕ → Directory → SessionError → Type 0
IsSessionCause honest input old (session.Load why) = IsLoadCause honest old why
IsSessionCause honest input old (session.NotYet line) = IsNotYet honest old input line
IsSessionCause honest input old session.NoMemory = ⊤

-- all lines are answered by the text, of a history that began with the loaded table
pub record Served (honest : Bool) (clock : ℕ → Type 0) (input : List ℕ) (old new : Directory) (before now : ℕ) (text : List ℕ) : Type 0 where
  pub built : IsBuilt input
  pub stone : StoneShape
  pub whole : IsSessionText clock (opening_of stone) input text
  pub carries : Carries honest clock stone (owned (lines_of input)) (replies_of whole.blocks) whole.history old new before now

-- memory ran out behind a front of the lines
pub record Interrupted (honest : Bool) (clock : ℕ → Type 0) (input : List ℕ) (old new : Directory) (before now : ℕ) : Type 0 where
  pub stone : StoneShape
  pub lines : List Line
  pub others : List Line
  pub front : lines_of input ≡ lines ++ others
  pub replies : List Reply
  pub history : History
  pub unflushed : AllByRecursion IsRowOrChange history.entries
  pub carries : Carries honest clock stone (owned lines) replies history old new before now

-- what a session leaves that was not answered to its end
abbrev pub LeavesUnanswered : Bool → (ℕ → Type 0) → List ℕ → Directory → Directory → ℕ → ℕ → SessionError → Type 0
LeavesUnanswered honest clock input old new before now (session.Load why) = LeavesAll honest old new
LeavesUnanswered honest clock input old new before now (session.NotYet line) = LeavesAll honest old new
LeavesUnanswered honest clock input old new before now session.NoMemory = Interrupted honest clock input old new before now

-- A session over an input, by how it ended: with the text that answers it, or before.
pub record Ends (honest : Bool) (clock : ℕ → Type 0) (input : List ℕ) (old new : Directory) (before now : ℕ) (ended : Result (List ℕ) SessionError) : Type 0 where
  pub served : IfOk ended (Served honest clock input old new before now)
  pub cause : IfErr ended (IsSessionCause honest input old)
  pub unanswered : IfErr ended (LeavesUnanswered honest clock input old new before now)

-- the text is written; a refusal is told by its status
abbrev pub TellsSession : Result (List ℕ) SessionError → Status → Option (List ℕ) → Option (List ℕ) → ℕ → ℕ → Type 0
TellsSession ended status held then before now = MatchResult ended (λ text. WritesWhole status text held then before now) (λ why. IsToldAs (session_status why) status)

-- What a session owes over its input: it ended in one way, which left that of the directory, and is told.
pub record OwesAnswer (honest : Bool) (clock : ℕ → Type 0) (input : List ℕ) (old new : Directory) (device_before device_now : ℕ) (held then : Option (List ℕ)) (before now : ℕ) (status : Status) : Type 0 where
  pub ended : Result (List ℕ) SessionError
  pub leaves : Ends honest clock input old new device_before device_now ended
  pub told : TellsSession ended status held then before now

-- what was read: all that the source gave, to its end and within the limit; too much only where it gave more
pub record Reads (given left : Option (List ℕ)) (read : Result (List ℕ) ReadAllError) : Type 0 where
  pub whole : IfOk read (λ input. IfSome given (λ bytes. input ≡ bytes))
  pub within : IfOk read (λ input. length input ≤ INPUT_LIMIT)
  pub to_the_end : OnOk read (IsAtEnd left)
  pub too_long : IsErrOf read reading.TooLong → IfSome given (λ bytes. INPUT_LIMIT < length bytes)

-- What a session owes: the input is read, and then answered; where it isn't read, the directory is as it was.
pub record OwesSession (honest : Bool) (clock : ℕ → Type 0) (given left : Option (List ℕ)) (old new : Directory) (device_before device_now : ℕ) (held then : Option (List ℕ)) (before now : ℕ) (status : Status) : Type 0 where
  pub read : Result (List ℕ) ReadAllError
  pub reads : Reads given left read
  pub answers : IfOk read (λ input. OwesAnswer honest clock input old new device_before device_now held then before now status)
  pub unread : IfErr read (λ why. (new ≡ old) × IsToldAs (reading_status why) status)
