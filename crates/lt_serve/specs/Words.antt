-- The forms of words that the top call knows.
use Rattle.std.specs.Prelude.{◌≡◌, ◌⊎◌, ◌≤◌, ◌<◌, ◌^◌, ℕ, List, [], ◌∷◌, codes, Option, Some, None}
use Rattle.lt_lang.specs.Numbers.{IsCount}

-- run DIR --leave
abbrev pub IsRun : List (List ℕ) → Type 0
IsRun (command ∷ dir ∷ flag ∷ []) = (command ≡ codes "run") × (flag ≡ codes "--leave")
IsRun _ = ⊥

-- a time to live in microseconds: one to nineteen decimal digits, from 1 to 2^62 - 1
pub record IsTtl (word : List ℕ) (ttl : ℕ) : Type 0 where
  pub count : IsCount word ttl
  pub some : 1 ≤ ttl
  pub below : ttl < 2 ^ 62

-- create DIR SCHEMA, or create DIR SCHEMA TTL
abbrev pub IsCreation : List (List ℕ) → List ℕ → Option ℕ → Type 0
IsCreation (command ∷ dir ∷ text ∷ []) schema None = (command ≡ codes "create") × (text ≡ schema)
IsCreation (command ∷ dir ∷ text ∷ word ∷ []) schema (Some ttl) = (command ≡ codes "create") × (text ≡ schema) × IsTtl word ttl
IsCreation _ schema ttl = ⊥

-- the words have a listed form
abbrev pub HasForm : List (List ℕ) → Type 0
HasForm words = IsRun words ⊎ ((schema : List ℕ) × (ttl : Option ℕ) × IsCreation words schema ttl)
