-- A session of one client while it grows by a line at a time: each line is decided at the end of the history.
use Rattle.std.specs.Prelude.{ℕ, ◌≡◌, ⊤, List, [], ◌∷◌, length}
use Rattle.lt_command.specs.declared.command.Line.{Line}
use Rattle.lt_command.specs.declared.reply.Reply.{Reply}
use Rattle.lt_model.specs.History.{History}
use Rattle.lt_model.specs.Legal.{IsLegal}
use Rattle.lt_model.specs.Session.{Mark, seen_after, LinesAnswered}

-- each line's entries stand where those of the line before end
abbrev pub LieEndToEnd : ℕ → List Mark → Type 0
LieEndToEnd seen [] = ⊤
LieEndToEnd seen (mark ∷ marks) = (mark.goes ≡ seen) × LieEndToEnd (seen_after mark) marks

-- what the client has seen after all these lines
abbrev pub seen_after_all : ℕ → List Mark → ℕ
seen_after_all seen [] = seen
seen_after_all seen (mark ∷ marks) = seen_after_all (seen_after mark) marks

-- the lines so far are answered by the replies so far, and the history so far has their entries and no others
pub record SoFar (clock : ℕ → Type 0) (began : ℕ) (lines : List Line) (replies : List Reply) (h : History) : Type 0 where
  pub legal : IsLegal h
  pub marks : List Mark
  pub answered : LinesAnswered clock h began lines replies marks
  pub end_to_end : LieEndToEnd began marks
  pub all_seen : seen_after_all began marks ≡ length h.entries
