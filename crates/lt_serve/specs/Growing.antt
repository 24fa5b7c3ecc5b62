-- A session over the bytes of its input, after some of its lines.
use Rattle.std.specs.Prelude.{◌≡◌, ◌⊎◌, ◌+◌, ◌-◌, ◌^◌, ◌≤◌, min, ℕ, Bool, true, false, IsTrue, List, [], ◌∷◌, ◌++◌, sum_by, All, Option, Some, None, IfSome, IfNone, Contains}
use Rattle.std.specs.List.{flat_map, AllByRecursion}
use Rattle.lt_io.specs.Device.{Counts}
use Rattle.lt_io.specs.Directory.{State, Directory, moment}
use Rattle.lt_io.specs.Steps.{Steps}
use Rattle.lt_reply.specs.Texts.{reply_text_of, client_line}
use Rattle.lt_command.specs.declared.command.Command.{Command}
use Rattle.lt_command.specs.declared.command.Command.TheVariants.{Alter}
use Rattle.lt_command.specs.declared.command.Line.{Line}
use Rattle.lt_command.specs.declared.command.Line.TheVariants.{Skip, Bad, Command as CommandLine}
use Rattle.lt_command.specs.declared.reply.Reply.{Reply}
use Rattle.lt_command.specs.declared.reply.Reply.TheVariants.{BadLine, Refused, Fault, Spent}
use Rattle.lt_model.specs.History.{Opening, History}
use Rattle.lt_model.specs.Session.{Block, IsMoment}
use Rattle.lt_model.specs.Growing.{SoFar}
use Rattle.lt_plain.specs.Table.{StandsFor, Answers, IsUndamaged}
use Rattle.lt_serve.specs.Session.{lines_of, is_built, IsRowOrChange, IsSessionText}
use Rattle.lt_serve.specs.Kept.{Frame, frame_of, Told, told_of, told_by_line, TellsOf, AllTell, StaysKept, LendsInTurn}
use Rattle.lt_serve.specs.ByLine.{LineEnd, begun_at, TellsByLine, last_end}

-- the lines that belong to anybody
abbrev pub owned : List Line → List Line
owned [] = []
owned (Skip ∷ lines) = owned lines
owned (Bad client at ∷ lines) = Bad client at ∷ owned lines
owned (CommandLine client moment command ∷ lines) = CommandLine client moment command ∷ owned lines

-- a line whose command, if it has one, is built
abbrev pub asks_built : Line → Bool
asks_built Skip = true
asks_built (Bad client at) = true
asks_built (CommandLine client moment command) = is_built command

-- the head of a client's block, if there is a client
abbrev pub block_head : Option (List ℕ) → List ℕ
block_head None = []
block_head (Some name) = client_line name

abbrev pub fault_weight : Reply → ℕ
fault_weight Fault = 1
fault_weight _ = 0

-- how many of the replies tell a fault
abbrev pub faults_in : List Reply → ℕ
faults_in replies = sum_by fault_weight replies

-- a count that is at most so many above what it was; it stands still at its type's end
abbrev pub AtMostRose : ℕ → ℕ → ℕ → Type 0
AtMostRose before faults now = min (before + faults) (2 ^ 64 - 1) ≤ now

abbrev pub is_change : Command → Bool
is_change (Alter change) = true
is_change _ = false

abbrev pub asks_change : Line → Bool
asks_change Skip = false
asks_change (Bad client at) = false
asks_change (CommandLine client moment command) = is_change command

-- how many file numbers a change may have used up that was told so
abbrev pub number_weight : Reply → ℕ
number_weight (Refused why) = 0
number_weight Spent = 0
number_weight _ = 1

-- the same of any command, and of any line
abbrev pub numbers_for : Command → Reply → ℕ
numbers_for (Alter change) reply = number_weight reply
numbers_for _ reply = 0

abbrev pub numbers_used : Line → Reply → ℕ
numbers_used Skip reply = 0
numbers_used (Bad client at) reply = 0
numbers_used (CommandLine client moment command) reply = numbers_for command reply

-- a change is told that file numbers are spent only where none from this one on is left
abbrev pub IsSpentFrom : ℕ → Line → Reply → Type 0
IsSpentFrom free line reply = IsTrue (asks_change line) → reply ≡ Spent → 2 ^ 62 ≤ free

-- The first free file number before these lines and after them: a change that was neither refused nor told that the numbers
-- are spent may have used one, and it is told so only where none was left.
abbrev pub UsesNumbers : ℕ → List Line → List Reply → ℕ → Type 0
UsesNumbers first [] [] free = free ≤ first
UsesNumbers first (line ∷ lines) (reply ∷ replies) free = IsSpentFrom first line reply × UsesNumbers (first + numbers_used line reply) lines replies free
UsesNumbers first _ _ free = ⊥

-- the replies of all blocks
abbrev pub replies_of : List Block → List Reply
replies_of blocks = flat_map (λ (block : Block). block.replies) blocks

-- the reply to a line, and what it makes of the table; none where the line belongs to nobody
abbrev pub Replies : (ℕ → Type 0) → Opening → Opening → Line → Option Reply → Type 0
Replies clock old new Skip None = new ≡ old
Replies clock old new (Bad client at) (Some reply) = (reply ≡ BadLine at) × (new ≡ old)
Replies clock old new (CommandLine client moment command) (Some reply) = (now : ℕ) × IsMoment clock moment now × Answers old new now command reply
Replies clock old new line reply = ⊥

-- what a session reads off its device: the count of faults, the first free file number, and the directory
pub record Meter : Type 0 where
  pub faults : ℕ
  pub next_file : ℕ
  pub directory : Directory

abbrev pub meter : ℕ → ℕ → Directory → Meter
meter faults next_file directory = record { faults = faults; next_file = next_file; directory = directory }

-- the reply, if there is one, among the replies, in the text, and in what is told of the schema
abbrev pub replies_in : Option Reply → List Reply
replies_in None = []
replies_in (Some reply) = reply ∷ []

abbrev pub shown : Option Reply → List ℕ
shown None = []
shown (Some reply) = reply_text_of reply

abbrev pub told_by : Line → Option Reply → Told → Told
told_by line None told = told
told_by line (Some reply) told = told_by_line line reply told

-- A line is answered so, if it belongs to anybody: what the reply makes of the table, of the count of faults, of the file
-- numbers and of the possible descriptors.
pub record AnswersLine (honest : Bool) (clock : ℕ → Type 0) (old new : Opening) (before now : Meter) (line : Line) (reply : Option Reply) : Type 0 where
  pub replies : Replies clock old new line reply
  pub undamaged : IfSome reply IsUndamaged
  pub faults : Counts before.faults now.faults (reply ≡ Some Fault)
  pub spent : IfSome reply (IsSpentFrom before.next_file line)
  pub used : IfSome reply (λ reply. now.next_file ≤ before.next_file + numbers_used line reply)
  pub unused : IfNone reply (now ≡ before)
  pub lends : LendsInTurn before.next_file before.directory now.next_file now.directory
  pub kept : (told : Told) → told.versions ≡ old.schemas → StaysKept honest old new told (told_by line reply told) before.directory now.directory

-- where the lines so far left off, and that all that is possible is told of by their replies
pub record TellsSoFar (frame : Frame) (first : LineEnd) (held : Opening) (lines : List Line) (replies : List Reply) (now : Directory) : Type 0 where
  pub ends : List LineEnd
  pub by_line : TellsByLine frame now first lines replies ends
  pub moment_is : (last_end first ends).moment ≡ moment now
  pub versions : (last_end first ends).told.versions ≡ held.schemas
  pub all_tell : AllTell frame (last_end first ends).told now.now

-- a descriptor of the table, whatever is told of its schema
abbrev pub TellsSome : Frame → Option (List ℕ) → Type 0
TellsSome frame descriptor = (told : Told) × TellsOf frame told descriptor

-- the files stand, and each possible descriptor was possible before or is one of the table
pub record Stays (frame : Frame) (before after : State) : Type 0 where
  pub files : after.files ≡ before.files
  pub old_or_new : (descriptor : Option (List ℕ)) → Contains after.may descriptor → Contains before.may descriptor ⊎ TellsSome frame descriptor

-- These lines, each of which belongs to somebody, are answered by these replies: the table holds what their history says, which began with the opening.
pub record HasAnswered (honest : Bool) (clock : ℕ → Type 0) (opening held : Opening) (before now : Meter) (lines : List Line) (replies : List Reply) (history : History) : Type 0 where
  pub opened : history.opening ≡ opening
  pub stands : StandsFor held history
  pub so_far : SoFar clock 0 lines replies history
  pub unflushed : AllByRecursion IsRowOrChange history.entries
  pub frame : frame_of held ≡ frame_of opening
  pub faults : AtMostRose before.faults (faults_in replies) now.faults
  pub undamaged : All IsUndamaged replies
  pub numbers : UsesNumbers before.next_file lines replies now.next_file
  pub lends : LendsInTurn before.next_file before.directory now.next_file now.directory
  pub any_moment : honest ≡ true → Steps (Stays (frame_of opening)) before.directory now.directory
  pub tells : honest ≡ true → AllTell (frame_of opening) (told_of opening.schemas) before.directory.now → TellsSoFar (frame_of opening) (begun_at (moment before.directory) opening.schemas) held lines replies now.directory

-- a front of the input's lines is answered
pub record AnswersFront (honest : Bool) (clock : ℕ → Type 0) (opening held : Opening) (before now : Meter) (input : List ℕ) : Type 0 where
  pub lines : List Line
  pub others : List Line
  pub front : lines_of input ≡ lines ++ others
  pub replies : List Reply
  pub history : History
  pub answered : HasAnswered honest clock opening held before now (owned lines) replies history

-- the front of the input that was read is answered so far, and the text so far is the client's block
pub record ReadSoFar (honest : Bool) (clock : ℕ → Type 0) (opening held : Opening) (before now : Meter) (client : Option (List ℕ)) (input rest text : List ℕ) : Type 0 where
  pub lines : List Line
  pub cut : lines_of input ≡ lines ++ lines_of rest
  pub replies : List Reply
  pub history : History
  pub answered : HasAnswered honest clock opening held before now (owned lines) replies history
  pub written : text ≡ block_head client ++ flat_map reply_text_of replies

-- all lines are answered by the text
pub record IsAnswered (honest : Bool) (clock : ℕ → Type 0) (opening held : Opening) (before now : Meter) (input text : List ℕ) : Type 0 where
  pub whole : IsSessionText clock opening input text
  pub answered : HasAnswered honest clock opening held before now (owned (lines_of input)) (replies_of whole.blocks) whole.history
