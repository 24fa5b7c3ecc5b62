-- Texts without a zero byte.
use Rattle.std.proofs.Common.{◌≡◌, ℕ, zero, suc, ◌+◌, ◌<◌, ◌≤◌, Bool, true, false, eqb, List, [], ◌∷◌, ◌++◌, length, get_or, take, drop, refl, ap, ◌∙◌, arith, eq-eqb}
use Rattle.std.specs.Prelude.{Some, option_map}
use Rattle.lt_codec.specs.Spelling.{escaped}
use Rattle.lt_codec.specs.Reading.{behind, unescaped}

no_true : (t : Bool) → (t ≡ true → ⊥) → t ≡ false
no_true true never = absurd (never refl)
no_true false never = refl

-- none of the first so many is a zero
abbrev pub NoZero : ℕ → List ℕ → Type 0
NoZero n bytes = (k : ℕ) → k < n → eqb (get_or bytes k 0) 0 ≡ true → ⊥

first_is : (n b : ℕ) (bs : List ℕ) → NoZero (suc n) (b ∷ bs) → eqb b 0 ≡ false
first_is n b bs none = no_true (eqb b 0) (none 0 (omega arith))

others_are : (n b : ℕ) (bs : List ℕ) → NoZero (suc n) (b ∷ bs) → NoZero n bs
others_are n b bs none = λ k lt. none (suc k) (omega arith)

pub escaped_plain : (bytes : List ℕ) → NoZero (length bytes) bytes → escaped bytes ≡ bytes ++ 0 ∷ 0 ∷ []
unfolding escaped
escaped_plain [] none = refl
escaped_plain (b ∷ bs) none = rw (first_is (length bs) b bs none) (ap (λ (r : List ℕ). b ∷ r) (escaped_plain bs (others_are (length bs) b bs none)))

end_read : (b c : ℕ) (bs : List ℕ) → eqb b 0 ≡ true → eqb c 0 ≡ true → unescaped false (b ∷ c ∷ bs) ≡ Some ([], bs)
unfolding unescaped
end_read b c bs first second = rw (first, second) refl

byte_read : (b : ℕ) (bs : List ℕ) → eqb b 0 ≡ false → unescaped false (b ∷ bs) ≡ option_map (behind b) (unescaped false bs)
unfolding unescaped
byte_read b bs other = rw other refl

pub plain_read : (end : ℕ) (bytes : List ℕ) → NoZero end bytes → suc end < length bytes → eqb (get_or bytes end 0) 0 ≡ true → eqb (get_or bytes (suc end) 0) 0 ≡ true
    → unescaped false bytes ≡ Some (take end bytes, drop (suc (suc end)) bytes)
plain_read zero [] none long first second = absurd (omega arith)
plain_read zero (b ∷ []) none long first second = absurd (omega arith)
plain_read zero (b ∷ c ∷ bs) none long first second = end_read b c bs first second
plain_read (suc end) [] none long first second = absurd (omega arith)
plain_read (suc end) (b ∷ bs) none long first second =
    byte_read b bs (first_is end b bs none) ∙ ap (option_map (behind b)) (plain_read end bs (others_are end b bs none) (omega arith) first second)

pub plain_is : (end : ℕ) (bytes : List ℕ) → ((k : ℕ) → 0 ≤ k → k < end → eqb (get_or bytes k 0) 0 ≡ true → ⊥) → end + 1 < length bytes → eqb (get_or bytes end 0) 0 ≡ true → get_or bytes (end + 1) 0 ≡ 0
    → unescaped false bytes ≡ Some (take end bytes, drop (end + 2) bytes)
plain_is end bytes none long first second =
    let next : suc end ≡ end + 1 = omega arith in
    let past : suc (suc end) ≡ end + 2 = omega arith in
    let zero_next : eqb (get_or bytes (suc end) 0) 0 ≡ true = eq-eqb (get_or bytes (suc end) 0) 0 (ap (λ (n : ℕ). get_or bytes n 0) next ∙ second) in
    plain_read end bytes (λ k lt is. none k (omega arith) lt is) (omega arith) first zero_next ∙ ap (λ (n : ℕ). Some (take end bytes, drop n bytes)) past
