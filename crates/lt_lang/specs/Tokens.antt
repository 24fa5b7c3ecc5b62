-- How a line is cut into tokens: runs of bytes that aren't spaces, and what a token may be.
use Rattle.std.specs.Prelude.{◌≡◌, ℕ, ◌≤◌, Bool, true, false, not, ◌==◌, List, [], ◌∷◌, length, take, drop}
use Rattle.std.specs.List.{list_all, prefix_len}

abbrev pub is_space : ℕ → Bool
is_space b = b == 32

abbrev pub is_solid : ℕ → Bool
is_solid b = not (b == 32)

-- nothing, or a space first
abbrev pub is_ended : List ℕ → Bool
is_ended [] = true
is_ended (b ∷ bs) = b == 32

-- a " first
abbrev pub is_quoted : List ℕ → Bool
is_quoted [] = false
is_quoted (b ∷ bs) = b == 34

-- a token that is no text: bytes that aren't spaces, and no " first
pub record IsRun (token : List ℕ) : Type 0 where
  pub some : 1 ≤ length token
  pub solid : list_all is_solid token ≡ true
  pub bare : is_quoted token ≡ false

-- from the next token on
unfoldable pub skipped : List ℕ → List ℕ
skipped bytes = drop (prefix_len is_space bytes) bytes

-- the bytes up to the next space, and the bytes from there on
unfoldable pub word_of : List ℕ → List ℕ
word_of bytes = take (prefix_len is_solid bytes) bytes

unfoldable pub behind : List ℕ → List ℕ
behind bytes = drop (prefix_len is_solid bytes) bytes
