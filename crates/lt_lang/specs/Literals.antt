-- How literals are spelled: integers, texts in quotes with escapes, and bytes in hexadecimal digits.
use Rattle.std.specs.Prelude.{◌≡◌, ◌⊎◌, ℕ, ◌<◌, Bool, true, false, ◌&&◌, ◌==◌, not, List, [], ◌∷◌, ◌++◌, Some, codes, ⊤}
use Rattle.std.specs.Str.{IsUtf8}
use Rattle.lt_schema.specs.declared.value.Value.{Value}
use Rattle.lt_schema.specs.declared.value.Value.TheVariants.{Int, Text, Blob}
use Rattle.lt_hex.specs.Digits.{hex_pair}
use Rattle.lt_lang.specs.Numbers.{IsInteger}
use Rattle.lt_lang.specs.Tokens.{IsRun}

-- two digits a byte
abbrev pub IsHex : List ℕ → List ℕ → Type 0
IsHex [] [] = ⊤
IsHex (high ∷ low ∷ digits) (b ∷ bytes) = (hex_pair high low ≡ Some b) × IsHex digits bytes
IsHex _ _ = ⊥

-- neither " nor \
abbrev pub is_bare : ℕ → Bool
is_bare b = not (b == 34) && not (b == 92)

-- how a byte stands in a text: as it is, but for " and \, which stand behind a \; below 80 in hexadecimal also by its digits
abbrev pub IsPiece : List ℕ → ℕ → Type 0
IsPiece (c ∷ []) b = (c ≡ b) × (is_bare b ≡ true)
IsPiece (c ∷ d ∷ []) b = (c ≡ 92) × (d ≡ b) × (is_bare b ≡ false)
IsPiece (c ∷ d ∷ high ∷ low ∷ []) b = (c ≡ 92) × (d ≡ 120) × (hex_pair high low ≡ Some b) × (b < 128)
IsPiece _ b = ⊥

-- the bytes between the quotes spell the text byte by byte
abbrev pub IsBody : List ℕ → List ℕ → Type 0
IsBody body [] = body ≡ []
IsBody body (b ∷ text) = (piece : List ℕ) × (rest : List ℕ) × (body ≡ piece ++ rest) × IsPiece piece b × IsBody rest text

-- a text in quotes
pub record IsText (token text : List ℕ) : Type 0 where
  pub body : List ℕ
  pub spelled : token ≡ codes "\"" ++ body ++ codes "\""
  pub pieces : IsBody body text
  pub utf8 : IsUtf8 text

-- bytes by their digits
pub record IsBlob (token bytes : List ℕ) : Type 0 where
  pub digits : List ℕ
  pub spelled : token ≡ codes "0x" ++ digits
  pub pairs : IsHex digits bytes

-- the token spells the value
abbrev pub IsLit : List ℕ → Value → Type 0
IsLit token (Int x) = IsInteger token x
IsLit token (Text text) = IsText token text
IsLit token (Blob bytes) = IsBlob token bytes

-- each token spells the value at its place
abbrev pub AreLits : List (List ℕ) → List Value → Type 0
AreLits [] [] = ⊤
AreLits (token ∷ tokens) (value ∷ values) = IsLit token value × AreLits tokens values
AreLits _ _ = ⊥

-- a token stands alone: it is a run of bytes that aren't spaces, or a text
abbrev pub IsToken : List ℕ → Type 0
IsToken token = IsRun token ⊎ ((text : List ℕ) × IsText token text)
