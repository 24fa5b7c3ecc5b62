-- What the replies of a session show of its history: which rows were added, and under which numbers.
use Rattle.std.specs.Prelude.{ℕ, ◌≡◌, ◌≤◌, ◌<◌, List, Option, Some, slice_get, option_and_then}
use Rattle.lt_schema.specs.declared.value.Value.{Value}
use Rattle.lt_command.specs.declared.command.Command.TheVariants.{Insert}
use Rattle.lt_command.specs.declared.command.Line.{Line}
use Rattle.lt_command.specs.declared.command.Line.TheVariants.{Command as CommandLine}
use Rattle.lt_command.specs.declared.reply.Reply.{Reply}
use Rattle.lt_command.specs.declared.reply.Reply.TheVariants.{Inserted}
use Rattle.lt_model.specs.History.{row_entry, History, front}
use Rattle.lt_model.specs.Readings.{next}
use Rattle.lt_model.specs.Session.{Client, Block}

-- a client's line, and the reply to it
abbrev pub line_at : List Client → ℕ → ℕ → Option Line
line_at clients client line = option_and_then (λ own. slice_get own.lines line) (slice_get clients client)

abbrev pub reply_at : List Block → ℕ → ℕ → Option Reply
reply_at blocks client line = option_and_then (λ own. slice_get own.replies line) (slice_get blocks client)

-- the line asks for the row, and the reply has the number
pub record Inserts (clients : List Client) (blocks : List Block) (client line : ℕ) (row : List Value) (seq : ℕ) : Type 0 where
  pub name : List ℕ
  pub moment : Option ℕ
  pub asked : line_at clients client line ≡ Some (CommandLine name moment (Insert row))
  pub answered : reply_at blocks client line ≡ Some (Inserted seq)

-- an entry since a front adds the row under the number
pub record IsAdded (h : History) (began : ℕ) (row : List Value) (seq : ℕ) : Type 0 where
  pub entry : ℕ
  pub no_earlier : began ≤ entry
  pub ver : ℕ
  pub tablet : ℕ
  pub there : slice_get h.entries entry ≡ Some (row_entry (record { seq = seq; ver = ver; row = row }) tablet)

-- exactly one line was answered with the number
pub record IsShownOnce (clients : List Client) (blocks : List Block) (seq : ℕ) : Type 0 where
  pub client : ℕ
  pub line : ℕ
  pub row : List Value
  pub inserts : Inserts clients blocks client line row seq
  pub no_other : (c l : ℕ) (other : List Value) → Inserts clients blocks c l other seq → (c ≡ client) × (l ≡ line)

-- the number was given since a front
pub record IsGivenSince (h : History) (began seq : ℕ) : Type 0 where
  pub from : next (front began h) ≤ seq
  pub below : seq < next h
