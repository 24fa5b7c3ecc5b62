-- What the possible descriptors tell while lines are answered, line by line.
use Rattle.std.specs.Prelude.{◌≡◌, ◌⊎◌, ◌≤◌, ◌<◌, ⊤, ℕ, List, [], ◌∷◌}
use Rattle.lt_io.specs.Directory.{Image, Directory, PossibleAt}
use Rattle.lt_command.specs.declared.command.Line.{Line}
use Rattle.lt_command.specs.declared.reply.Reply.{Reply}
use Rattle.lt_schema.specs.Versions.{SchemaVersions}
use Rattle.lt_serve.specs.Kept.{Frame, Told, told_of, told_by_line, TellsOf}

-- where a line's answer left off: the directory's moment, and what the replies so far say of the schema
pub record LineEnd : Type 0 where
  pub moment : ℕ
  pub told : Told

-- at a moment at which no change is told beside these versions
abbrev pub begun_at : ℕ → SchemaVersions → LineEnd
begun_at at versions = record { moment = at; told = told_of versions }

-- While a line is answered, from one end to the next: at each moment each image that a stop may leave is told of by the
-- replies before this one, or by this one too.
pub record TellsLine (frame : Frame) (new : Directory) (line : Line) (reply : Reply) (from to : LineEnd) : Type 0 where
  pub later : from.moment ≤ to.moment
  pub told : to.told ≡ told_by_line line reply from.told
  pub meanwhile : (at : ℕ) (image : Image) → from.moment ≤ at → at < to.moment → PossibleAt new at image → TellsOf frame from.told image.descriptor ⊎ TellsOf frame to.told image.descriptor

-- so it is for each line
abbrev pub TellsByLine : Frame → Directory → LineEnd → List Line → List Reply → List LineEnd → Type 0
TellsByLine frame new from [] [] [] = ⊤
TellsByLine frame new from (line ∷ lines) (reply ∷ replies) (to ∷ ends) = TellsLine frame new line reply from to × TellsByLine frame new to lines replies ends
TellsByLine frame new from _ _ _ = ⊥

abbrev pub last_end : LineEnd → List LineEnd → LineEnd
last_end first [] = first
last_end first (next ∷ ends) = last_end next ends
