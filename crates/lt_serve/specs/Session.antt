-- A session over the bytes of its input: the lines that it spells, and the text that answers them.
use Rattle.std.specs.Prelude.{◌≡◌, ⊤, ℕ, Bool, true, false, IsTrue, List, [], ◌∷◌, ◌++◌, take, map, slice_get, Option, Some, None}
use Rattle.std.specs.List.{flat_map, AllByRecursion}
use Rattle.lt_lang.specs.Lines.{cut_lines}
use Rattle.lt_lang.specs.Sentences.{IsSpelled}
use Rattle.lt_lang.specs.Parsing.{line_at}
use Rattle.lt_reply.specs.Texts.{block_text, end_line}
use Rattle.lt_command.specs.declared.command.Command.{Command}
use Rattle.lt_command.specs.declared.command.Command.TheVariants.{Insert, Scan, Latest, Flush, Upkeep, Alter, Tablets}
use Rattle.lt_command.specs.declared.command.Line.{Line}
use Rattle.lt_command.specs.declared.command.Line.TheVariants.{Skip, Bad, Command as CommandLine}
use Rattle.lt_model.specs.History.{Opening, Entry, row_entry, bound_entry, schema_entry, kept_entry, History}
use Rattle.lt_model.specs.Readings.{next, kept}
use Rattle.lt_model.specs.Session.{Block, no_workers, IsSession, name_of, clients_of}

-- what the input's lines say
abbrev pub lines_of : List ℕ → List Line
lines_of input = map line_at (cut_lines input)

-- each of these spells what is read of it
abbrev pub AreSpelled : List (List ℕ) → Type 0
AreSpelled lines = AllByRecursion (λ bytes. IsSpelled bytes (line_at bytes)) lines

-- the commands that are built
abbrev pub is_built : Command → Bool
is_built (Insert row) = true
is_built (Scan query) = true
is_built (Latest prefix) = false
is_built (Flush tablet) = false
is_built Upkeep = false
is_built (Alter change) = true
is_built Tablets = false

abbrev pub first_name : Option (List ℕ) → Option (List ℕ) → Option (List ℕ)
first_name None other = other
first_name (Some name) other = Some name

-- the session's client: that of the first line that belongs to anybody
abbrev pub client_of : List Line → Option (List ℕ)
client_of [] = None
client_of (line ∷ lines) = first_name (name_of line) (client_of lines)

-- a line that belongs to nobody, or to the session's client, and asks for nothing that isn't built
abbrev pub MayAnswer : Option (List ℕ) → Line → Type 0
MayAnswer client Skip = ⊤
MayAnswer client (Bad name at) = client ≡ Some name
MayAnswer client (CommandLine name moment command) = (client ≡ Some name) × IsTrue (is_built command)

-- each of these lines may be answered
abbrev pub AllMayAnswer : Option (List ℕ) → List Line → Type 0
AllMayAnswer client lines = AllByRecursion (MayAnswer client) lines

-- all lines of the input are one client's and ask for what is built
abbrev pub IsBuilt : List ℕ → Type 0
IsBuilt input = AllMayAnswer (client_of (lines_of input)) (lines_of input)

-- the line of this number, counted from 0, is the first that is another client's or asks for what isn't built
pub record HasOtherLine (input : List ℕ) (number : ℕ) : Type 0 where
  pub other : Line
  pub there : slice_get (lines_of input) number ≡ Some other
  pub not_built : MayAnswer (client_of (lines_of input)) other → ⊥
  pub before : AllMayAnswer (client_of (lines_of input)) (take number (lines_of input))

-- the clients' blocks, one after the other
abbrev pub blocks_text : List Block → List ℕ
blocks_text blocks = flat_map (λ (block : Block). block_text block.name block.replies) blocks

-- nobody flushes or raises the bound yet: an entry is a row or a change of the schema
abbrev pub IsRowOrChange : Entry → Type 0
IsRowOrChange (row_entry numbered tablet) = ⊤
IsRowOrChange (schema_entry change) = ⊤
IsRowOrChange (bound_entry bound) = ⊥
IsRowOrChange (kept_entry number) = ⊥

-- The text of a session over the input, of a table that was opened so: its lines are spelled as the grammar says, and there
-- is one history, which began with that opening, and at whose fronts each line of each client is answered; the text is the
-- clients' blocks, and the next and the kept number at its end. No line flushes yet, so nobody adds a kept number.
pub record IsSessionText (clock : ℕ → Type 0) (opening : Opening) (input text : List ℕ) : Type 0 where
  pub spelled : AreSpelled (cut_lines input)
  pub blocks : List Block
  pub history : History
  pub opened : history.opening ≡ opening
  pub session : IsSession clock no_workers 0 (clients_of (lines_of input)) blocks history
  pub unflushed : AllByRecursion IsRowOrChange history.entries
  pub written : text ≡ blocks_text blocks ++ end_line (next history) (kept history)
