-- What descriptors tell of a table whose rows are in memory alone, while its schema changes.
use Rattle.std.specs.Prelude.{◌≡◌, ◌⊎◌, ◌≤◌, ◌+◌, ◌-◌, ◌^◌, ◌&&◌, ℕ, Bool, true, nat_le, nat_lt, List, [], ◌∷◌, ◌++◌, Option, Some, None, Ok, Err, Result, Contains}
use Rattle.lt_io.specs.Directory.{State, Directory}
use Rattle.lt_io.specs.Steps.{Steps}
use Rattle.lt_schema.specs.declared.change.Change.{Change}
use Rattle.lt_schema.specs.Versions.{SchemaVersions}
use Rattle.lt_command.specs.declared.command.Command.{Command}
use Rattle.lt_command.specs.declared.command.Command.TheVariants.{Alter}
use Rattle.lt_command.specs.declared.command.Line.{Line}
use Rattle.lt_command.specs.declared.command.Line.TheVariants.{Skip, Bad, Command as CommandLine}
use Rattle.lt_command.specs.declared.reply.Reply.{Reply}
use Rattle.lt_command.specs.declared.reply.Reply.TheVariants as reply
use Rattle.lt_commit.specs.declared.errors.CommitError.{CommitError}
use Rattle.lt_commit.specs.declared.errors.CommitError.TheVariants as commit
use Rattle.lt_desc.specs.Shape.{StoneShape}
use Rattle.lt_desc.specs.Lawful.{IsStone}
use Rattle.lt_desc.specs.Reading.{stone_at}
use Rattle.lt_desc.specs.Spelling.{spelling}
use Rattle.lt_model.specs.History.{Opening}

-- the reply to a change that was not published
abbrev pub commit_reply : CommitError → Reply
commit_reply commit.Spent = reply.Spent
commit_reply commit.Fault = reply.Fault
commit_reply commit.NoMemory = reply.NoMemory

-- the reply to a change
abbrev pub altered_reply : Result Reply CommitError → Reply
altered_reply (Ok answer) = answer
altered_reply (Err refused) = commit_reply refused

-- a time to live that a descriptor can tell
abbrev pub is_ttl : Option ℕ → Bool
is_ttl None = true
is_ttl (Some ttl) = nat_le 1 ttl && nat_lt ttl (2 ^ 62)

-- what a change of the schema leaves of a table: the number below which all is durable, the low bound, the time to live
pub record Frame : Type 0 where
  pub kept : ℕ
  pub low : ℕ
  pub ttl : Option ℕ

abbrev pub frame_of : Opening → Frame
frame_of held = record { kept = held.kept; low = held.low; ttl = held.ttl }

-- what replies say of the schema: its versions, and the changes that were answered `fault` since the last that was made
pub record Told : Type 0 where
  pub versions : SchemaVersions
  pub faulted : List Change

-- these versions, and no such change
abbrev pub told_of : SchemaVersions → Told
told_of versions = record { versions = versions; faulted = [] }

-- these versions and one change more
abbrev pub changed_by : SchemaVersions → Change → SchemaVersions
changed_by versions change = record { first = versions.first; changes = versions.changes ++ change ∷ [] }

-- what the reply to a change makes of it
abbrev pub told_by_change : Change → Reply → Told → Told
told_by_change change (reply.Version version) told = told_of (changed_by told.versions change)
told_by_change change reply.Fault told = record { versions = told.versions; faulted = told.faulted ++ change ∷ [] }
told_by_change change _ told = told

abbrev pub told_by_command : Command → Reply → Told → Told
told_by_command (Alter change) answer told = told_by_change change answer told
told_by_command _ answer told = told

-- what the reply to a line makes of it
abbrev pub told_by_line : Line → Reply → Told → Told
told_by_line Skip answer told = told
told_by_line (Bad client at) answer told = told
told_by_line (CommandLine client moment command) answer told = told_by_command command answer told

-- the versions that were told, or these with one change more, which was answered `fault`
abbrev pub HasVersions : Told → SchemaVersions → Type 0
HasVersions told versions = (versions ≡ told.versions) ⊎ ((change : Change) × Contains told.faulted change × (versions ≡ changed_by told.versions change))

-- A stone keeps what the table keeps, and no more while nothing is flushed; it has the table's low bound and time to live.
pub record HasFrame (frame : Frame) (stone : StoneShape) : Type 0 where
  pub kept : frame.kept ≤ stone.kept
  pub unflushed : stone.kept ≤ frame.kept
  pub low : stone.low ≡ frame.low
  pub ttl : stone.ttl ≡ frame.ttl

-- The descriptor of a table with this frame: it spells a lawful stone without tablets, whose schema is as was told.
pub record TellsOf (frame : Frame) (told : Told) (descriptor : Option (List ℕ)) : Type 0 where
  pub stone : StoneShape
  pub lawful : IsStone stone
  pub read : stone_at (spelling stone) ≡ Ok stone
  pub spelled : descriptor ≡ Some (spelling stone)
  pub bare : stone.tablets ≡ []
  pub frame_is : HasFrame frame stone
  pub versions : HasVersions told stone.schemas

-- each possible descriptor is such
abbrev pub AllTell : Frame → Told → State → Type 0
AllTell frame told state = (descriptor : Option (List ℕ)) → Contains state.may descriptor → TellsOf frame told descriptor

-- while the schema changes: the files stand, and each possible descriptor was possible before or is such
pub record Renews (frame : Frame) (told : Told) (before after : State) : Type 0 where
  pub files : after.files ≡ before.files
  pub old_or_new : (descriptor : Option (List ℕ)) → Contains after.may descriptor → Contains before.may descriptor ⊎ TellsOf frame told descriptor

-- What a command leaves of a table and of the directory that it is kept in: a descriptor that a stop may leave was possible
-- before or is as is told later, at each moment; and where all were as was told, all are as is told later.
pub record StaysKept (honest : Bool) (old new : Opening) (told later : Told) (before after : Directory) : Type 0 where
  pub frame : frame_of new ≡ frame_of old
  pub versions : later.versions ≡ new.schemas
  pub any_moment : honest ≡ true → Steps (Renews (frame_of old) later) before after
  pub all_tell : honest ≡ true → AllTell (frame_of old) told before.now → AllTell (frame_of old) later after.now

-- file numbers are lent in turn: the first free one rises with each lend
pub record LendsInTurn (free : ℕ) (old : Directory) (next : ℕ) (new : Directory) : Type 0 where
  pub lends : old.lends ≤ new.lends
  pub free_is : next ≡ free + (new.lends - old.lends)
