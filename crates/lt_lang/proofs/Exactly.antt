-- A line that was read, and all that spells it.
use Rattle.std.proofs.Common.{◌≡◌, ℕ, List, sym, ◌∙◌, Option}
use Rattle.std.specs.Prelude.{Result, Ok, Err, IfOk}
use Rattle.lt_command.specs.declared.command.Command.{Command}
use Rattle.lt_command.specs.declared.command.Line.{Line}
use Rattle.lt_command.specs.declared.command.Line.TheVariants as lines
use Rattle.lt_lang.specs.Sentences.{IsSentence, IsSkipped, IsSpelled}
use Rattle.lt_lang.specs.Parsing.{line_at}
use Rattle.lt_lang.proofs.Answered.{line_at-command, line_at-skip}
use Rattle.lt_lang.proofs.Wanted.{sentence_line, skip_line}
use Rattle.lt_lang.proofs.Stopped.{line_at-bad}

pub line_spelled : (bytes : List ℕ) (line : Line) → line ≡ line_at bytes → IsSpelled bytes line
line_spelled bytes lines.Skip e = line_at-skip bytes (sym e)
line_spelled bytes (lines.Command client moment command) e = line_at-command bytes client moment command (sym e)
line_spelled bytes (lines.Bad client at) e =
    (line_at-bad bytes client at (sym e), (λ is. let h = skip_line bytes is in cc), (λ other moment command is. let h = sentence_line bytes other moment command is in cc))

pub read_so : {E : Type 0} (bytes : List ℕ) (r : Result Line E) → IfOk r (λ read. read ≡ line_at bytes) → IfOk r (IsSpelled bytes)
read_so bytes (Ok line) e = line_spelled bytes line e
read_so bytes (Err stop) e = tt

pub found_so : {E : Type 0} (bytes : List ℕ) (r : Result Line E) (line : Line) → IfOk r (λ read. read ≡ line_at bytes) → line_at bytes ≡ line → IfOk r (λ read. read ≡ line)
found_so bytes (Ok read) line e f = e ∙ f
found_so bytes (Err stop) line e f = tt

pub one_command : (bytes client other : List ℕ) (moment when : Option ℕ) (command request : Command) → IsSentence bytes client moment command → IsSentence bytes other when request
    → lines.Command client moment command ≡ lines.Command other when request
one_command bytes client other moment when command request first second =
    sym (sentence_line bytes client moment command first) ∙ sentence_line bytes other when request second

pub no_remark_beside : (bytes client : List ℕ) (moment : Option ℕ) (command : Command) → IsSkipped bytes → IsSentence bytes client moment command → ⊥
no_remark_beside bytes client moment command skip is =
    let f = skip_line bytes skip in
    let g = sentence_line bytes client moment command is in cc
