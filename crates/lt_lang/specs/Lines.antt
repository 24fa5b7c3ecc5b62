-- How an input is cut into lines.
use Rattle.std.specs.Prelude.{ℕ, Bool, false, ◌&&◌, ◌==◌, List, [], ◌∷◌, if◌then◌else◌}

-- the bytes begin with LF
abbrev pub starts_with_lf : List ℕ → Bool
starts_with_lf [] = false
starts_with_lf (b ∷ bs) = b == 10

-- the line without a CR at its end
abbrev pub without_cr : List ℕ → List ℕ
without_cr [] = []
without_cr (b ∷ []) = if b == 13 then [] else b ∷ []
without_cr (b ∷ c ∷ bs) = b ∷ without_cr (c ∷ bs)

-- this byte in front of the first line
abbrev pub onto_first : ℕ → List (List ℕ) → List (List ℕ)
onto_first b [] = (b ∷ []) ∷ []
onto_first b (line ∷ lines) = (b ∷ line) ∷ lines

-- LF, byte 10, ends a line, and one CR, byte 13, right before it is left out.
-- The last line may lack its LF, and nothing after the last LF is no line.
abbrev pub cut_lines : List ℕ → List (List ℕ)
cut_lines [] = []
cut_lines (b ∷ bs) =
    if b == 10 then [] ∷ cut_lines bs else
    (if b == 13 && starts_with_lf bs then cut_lines bs else onto_first b (cut_lines bs))
