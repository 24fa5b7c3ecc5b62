-- The byte that two digits spell.
use Rattle.std.proofs.Common.{◌≡◌, ℕ, List, [], ◌∷◌, refl, ◌∙◌, ap, Option, Some, None}
use Rattle.lt_hex.specs.Digits.{hex_pair}
use Rattle.lt_lang.specs.Parsing.{beside, hex_byte_at}

-- two digits in front
pub record TakesHex (bytes : List ℕ) (b : ℕ) (rest : List ℕ) : Type 0 where
  pub high : ℕ
  pub low : ℕ
  pub spelled : bytes ≡ high ∷ low ∷ rest
  pub pair : hex_pair high low ≡ Some b

parts_same : (A : Type 0) (p q : A × List ℕ) → Some p ≡ Some q → (p.0 ≡ q.0) × (p.1 ≡ q.1)
parts_same A p q e = let h : p ≡ q = cc in (ap (λ (r : A × List ℕ). r.0) h, ap (λ (r : A × List ℕ). r.1) h)

beside-pair : (high low : ℕ) (ds : List ℕ) (r : Option ℕ) (b : ℕ) (rest : List ℕ) → hex_pair high low ≡ r → beside ds r ≡ Some (b, rest) → TakesHex (high ∷ low ∷ ds) b rest
beside-pair high low ds None b rest eq e = cc
beside-pair high low ds (Some x) b rest eq e =
    let h = parts_same ℕ (x, ds) (b, rest) e in
    record { high = high; low = low; spelled = ap (λ l. high ∷ low ∷ l) h.1; pair = eq ∙ ap Some h.0 }

pub hex_byte_at-read : (bytes : List ℕ) (b : ℕ) (rest : List ℕ) → hex_byte_at bytes ≡ Some (b, rest) → TakesHex bytes b rest
unfolding hex_byte_at
hex_byte_at-read [] b rest e = cc
hex_byte_at-read (h ∷ []) b rest e = cc
hex_byte_at-read (h ∷ l ∷ ds) b rest e = beside-pair h l ds (hex_pair h l) b rest refl e
