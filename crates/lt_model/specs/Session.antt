-- What a session of clients is: each line is answered at a front of one history, and adds its own entries to it.
use Rattle.std.specs.Prelude.{ℕ, ◌+◌, ◌≡◌, ◌≤◌, ◌<◌, ◌⊎◌, IsTrue, ⊤, Bool, false, List, [], ◌∷◌, ◌++◌, length, take, drop, map, filter, nat_eq, Option, Some, None, IsSomeAnd, slice_get, option_and_then, if◌then◌else◌}
use Rattle.std.specs.List.{list_any}
use Rattle.std.specs.Cmp.Lexicographic.{pointwise}
use Rattle.lt_command.specs.declared.command.Command.{Command}
use Rattle.lt_command.specs.declared.command.Line.{Line}
use Rattle.lt_command.specs.declared.command.Line.TheVariants.{Skip, Bad, Command as CommandLine}
use Rattle.lt_command.specs.declared.reply.Reply.{Reply}
use Rattle.lt_command.specs.declared.reply.Reply.TheVariants.{BadLine}
use Rattle.lt_model.specs.History.{Entry, row_entry, bound_entry, schema_entry, kept_entry, History, front}
use Rattle.lt_model.specs.Readings.{since}
use Rattle.lt_model.specs.Legal.{IsLegal}
use Rattle.lt_model.specs.Step.{IsStep}

-- where a line was decided, after which entries its own stand, these entries, and its moment; fronts are numbers of entries
pub record Mark : Type 0 where
  pub at : ℕ
  pub goes : ℕ
  pub added : List Entry
  pub now : ℕ

-- the front that a client has seen once the line was answered
abbrev pub seen_after : Mark → ℕ
seen_after mark = mark.goes + length mark.added

-- a client's lines, in order, without those that belong to nobody
pub record Client : Type 0 where
  pub name : List ℕ
  pub lines : List Line

-- a client's replies, in order
pub record Block : Type 0 where
  pub name : List ℕ
  pub replies : List Reply

-- the line's own moment, else one that the clock may show
abbrev pub IsMoment : (ℕ → Type 0) → Option ℕ → ℕ → Type 0
IsMoment clock None now = clock now
IsMoment clock (Some moment) now = now ≡ moment

-- the entries stand in the history directly after a front
pub record Stand (h : History) (goes : ℕ) (added : List Entry) : Type 0 where
  pub within : goes + length added ≤ length h.entries
  pub there : take (length added) (drop goes h.entries) ≡ added

-- a command is answered at a front no earlier than its client had seen, and its entries stand in the history
pub record CommandAnswered (clock : ℕ → Type 0) (h : History) (seen : ℕ) (moment : Option ℕ) (command : Command) (reply : Reply) (mark : Mark) : Type 0 where
  pub no_earlier : seen ≤ mark.at
  pub in_turn : mark.at ≤ mark.goes
  pub stand : Stand h mark.goes mark.added
  pub moment_is : IsMoment clock moment mark.now
  pub step : IsStep (front mark.at h) (front mark.goes h) mark.now command reply mark.added

-- a line outside the grammar is told so, and adds nothing
pub record BadAnswered (seen at : ℕ) (reply : Reply) (mark : Mark) : Type 0 where
  pub reply_is : reply ≡ BadLine at
  pub stays : (mark.goes ≡ seen) × (mark.added ≡ [])

abbrev pub LineAnswered : (ℕ → Type 0) → History → ℕ → Line → Reply → Mark → Type 0
LineAnswered clock h seen Skip reply mark = ⊥
LineAnswered clock h seen (Bad client at) reply mark = BadAnswered seen at reply mark
LineAnswered clock h seen (CommandLine client moment command) reply mark = CommandAnswered clock h seen moment command reply mark

-- one reply a line, in order, each line from where the one before left off
abbrev pub LinesAnswered : (ℕ → Type 0) → History → ℕ → List Line → List Reply → List Mark → Type 0
LinesAnswered clock h seen [] [] [] = ⊤
LinesAnswered clock h seen (line ∷ lines) (reply ∷ replies) (mark ∷ marks) = LineAnswered clock h seen line reply mark × LinesAnswered clock h (seen_after mark) lines replies marks
LinesAnswered clock h seen _ _ _ = ⊥

-- one block a client, in order
abbrev pub ClientsAnswered : (ℕ → Type 0) → History → ℕ → List Client → List Block → List (List Mark) → Type 0
ClientsAnswered clock h began [] [] [] = ⊤
ClientsAnswered clock h began (client ∷ clients) (block ∷ blocks) (marks ∷ others) = (block.name ≡ client.name) × LinesAnswered clock h began client.lines block.replies marks × ClientsAnswered clock h began clients blocks others
ClientsAnswered clock h began _ _ _ = ⊥

-- the mark of a client's line
abbrev pub mark_of : List (List Mark) → ℕ → ℕ → Option Mark
mark_of marks client line = option_and_then (λ own. slice_get own line) (slice_get marks client)

-- the line added the entry with this number
abbrev pub Adds : List (List Mark) → ℕ → ℕ → ℕ → Type 0
Adds marks entry client line = IsSomeAnd (mark_of marks client line) (λ mark. (mark.goes ≤ entry) × (entry < seen_after mark))

pub record AddedByOneLine (marks : List (List Mark)) (entry : ℕ) : Type 0 where
  pub client : ℕ
  pub line : ℕ
  pub adds : Adds marks entry client line
  pub no_other : (c l : ℕ) → Adds marks entry c l → (c ≡ client) × (l ≡ line)

-- no line added the entry
abbrev pub NoLineAdds : List (List Mark) → ℕ → Type 0
NoLineAdds marks entry = (client line : ℕ) → ¬ Adds marks entry client line

-- who adds to a history beside the lines: a flusher, a merger, and the flush at a session's end
pub record Workers : Type 0 where
  pub flusher : Bool
  pub merger : Bool
  pub last_flush : Bool

-- the lines alone add to it
abbrev pub no_workers : Workers
no_workers = record { flusher = false; merger = false; last_flush = false }

-- the merger raised the bound, for a moment that the clock may show
pub record AddedByMerger (clock : ℕ → Type 0) (workers : Workers) (h : History) (marks : List (List Mark)) (number bound : ℕ) : Type 0 where
  pub runs : IsTrue workers.merger
  pub no_line : NoLineAdds marks number
  pub now : ℕ
  pub shown : clock now
  pub bound_is : bound ≡ since (front number h) now

-- a flush of no line told what is durable: the flusher's, or the one at the end, whose entry is the last
pub record AddedByFlush (workers : Workers) (h : History) (marks : List (List Mark)) (number : ℕ) : Type 0 where
  pub runs : IsTrue workers.flusher ⊎ (IsTrue workers.last_flush × (number + 1 ≡ length h.entries))
  pub no_line : NoLineAdds marks number

-- Who added an entry: exactly one line; or, of a raised bound, the merger, and of what is durable, a flush of no line.
abbrev pub HasOrigin : (ℕ → Type 0) → Workers → History → List (List Mark) → ℕ → Option Entry → Type 0
HasOrigin clock workers h marks number None = ⊤
HasOrigin clock workers h marks number (Some (row_entry numbered tablet)) = AddedByOneLine marks number
HasOrigin clock workers h marks number (Some (schema_entry change)) = AddedByOneLine marks number
HasOrigin clock workers h marks number (Some (bound_entry bound)) = AddedByOneLine marks number ⊎ AddedByMerger clock workers h marks number bound
HasOrigin clock workers h marks number (Some (kept_entry kept)) = AddedByOneLine marks number ⊎ AddedByFlush workers h marks number

-- A session that began at a front of the history, which it ended with.
pub record IsSession (clock : ℕ → Type 0) (workers : Workers) (began : ℕ) (clients : List Client) (blocks : List Block) (h : History) : Type 0 where
  pub legal : IsLegal h
  pub began_within : began ≤ length h.entries
  pub marks : List (List Mark)
  pub answered : ClientsAnswered clock h began clients blocks marks
  pub origins : (number : ℕ) → began ≤ number → number < length h.entries → HasOrigin clock workers h marks number (slice_get h.entries number)

-- whose line it is
abbrev pub name_of : Line → Option (List ℕ)
name_of Skip = None
name_of (Bad client at) = Some client
name_of (CommandLine client moment command) = Some client

abbrev pub belongs_to : List ℕ → Line → Bool
belongs_to name Skip = false
belongs_to name (Bad client at) = pointwise nat_eq client name
belongs_to name (CommandLine client moment command) = pointwise nat_eq client name

-- a name, unless it is known already
abbrev pub new_name : List (List ℕ) → Option (List ℕ) → List (List ℕ)
new_name known None = []
new_name known (Some name) = if list_any (pointwise nat_eq name) known then [] else name ∷ []

-- the clients' names in order of first appearance, those already known first
abbrev pub names_from : List (List ℕ) → List Line → List (List ℕ)
names_from known [] = known
names_from known (line ∷ lines) = names_from (known ++ new_name known (name_of line)) lines

-- the clients of the lines, in order of first appearance, each with its own lines
abbrev pub clients_of : List Line → List Client
clients_of lines = map (λ name. record { name = name; lines = filter (belongs_to name) lines }) (names_from [] lines)
