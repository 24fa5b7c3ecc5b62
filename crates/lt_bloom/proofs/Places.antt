-- Bits of a run of bytes, one set after the other.
use Rattle.std.proofs.Common.{◌≡◌, ◌≢◌, ℕ, zero, suc, ◌+◌, ◌*◌, ◌/◌, ◌%◌, ◌^◌, ◌<◌, ◌≤◌, Bool, true, false, eqb, ◌||◌, List, [], ◌∷◌, ◌++◌, length, get_or, refl, sym, ap, ◌∙◌, arith, inl, inr, get_or-set_other, get_or-set_same, replicate, take}
use Rattle.std.specs.Prelude.{slice_set, bit_or}
use Rattle.std.specs.Int.{w8, bit_at}
use Rattle.std.specs.List.{list_any, range_with_len}
use Rattle.std.proofs.Math.Bool.{or-false}
use Rattle.std.proofs.lemmas.Bool.{ne_eqb, eq-eqb}
use Rattle.std.proofs.lemmas.Bool.Decides.{eqb_tells}
use Rattle.std.proofs.lemmas.Nat.Bits.{bit_at_set_same, bit_at_set_other, bit_at-zero}
use Rattle.std.proofs.lemmas.List.{map-id, take_all}
use Rattle.std.proofs.lemmas.List.Folds.{list_any-append}
use Rattle.std.proofs.lemmas.List.FromFn.{map-range_with_len_more}
use Rattle.lt_bloom.specs.Filter.{is_set, is_among, is_place, place}

or_true : (b : Bool) → (b || true) ≡ true
or_true true = refl
or_true false = refl

pub or_assoc : (a b c : Bool) → ((a || b) || c) ≡ (a || (b || c))
or_assoc true b c = refl
or_assoc false b c = refl

-- the byte that takes bit j
abbrev pub with_bit : ℕ → ℕ → ℕ
with_bit byte j = bit_or byte (1 * 2 ^ j % 256)

-- another bit of the same byte, or the bit itself
in_byte : (byte at p : ℕ) → p / 8 ≡ at / 8 → eqb (bit_at (with_bit byte (at % 8)) (p % 8)) 1 ≡ (eqb (bit_at byte (p % 8)) 1 || eqb at p)
in_byte byte at p same =
    let j : at % 8 < 8 = omega arith in
    elim (eqb_tells (p % 8) (at % 8)) [
      | inl y ↦
          let e : p % 8 ≡ at % 8 = y.1 in
          let it : at ≡ p = omega arith in
          let one : bit_at (with_bit byte (at % 8)) (p % 8) ≡ 1 = ap (bit_at (with_bit byte (at % 8))) e ∙ bit_at_set_same w8 byte (at % 8) j in
          ap (λ (b : ℕ). eqb b 1) one ∙ sym (ap (λ (b : Bool). eqb (bit_at byte (p % 8)) 1 || b) (eq-eqb at p it) ∙ or_true (eqb (bit_at byte (p % 8)) 1))
      | inr n ↦
          let ne : p % 8 ≢ at % 8 = n.1 in
          let not_it : at ≡ p → ⊥ = λ (e : at ≡ p). ne (ap (λ (x : ℕ). x % 8) (sym e)) in
          ap (λ (b : ℕ). eqb b 1) (bit_at_set_other w8 byte (at % 8) j (p % 8) ne) ∙ sym (ap (λ (b : Bool). eqb (bit_at byte (p % 8)) 1 || b) (ne_eqb at p not_it) ∙ or-false (eqb (bit_at byte (p % 8)) 1))
    ]

pub set_is : (xs : List ℕ) (at p : ℕ) → at < 8 * length xs → is_set (slice_set xs (at / 8) (with_bit (get_or xs (at / 8) 0) (at % 8))) p ≡ (is_set xs p || eqb at p)
set_is xs at p lt =
    let k : at / 8 < length xs = omega arith in
    elim (eqb_tells (p / 8) (at / 8)) [
      | inl y ↦
          let e : p / 8 ≡ at / 8 = y.1 in
          let new : get_or (slice_set xs (at / 8) (with_bit (get_or xs (at / 8) 0) (at % 8))) (p / 8) 0 ≡ with_bit (get_or xs (at / 8) 0) (at % 8) =
          ap (λ (i : ℕ). get_or (slice_set xs (at / 8) (with_bit (get_or xs (at / 8) 0) (at % 8))) i 0) e ∙ (rw get_or-set_same refl) in
          ap (λ (b : ℕ). eqb (bit_at b (p % 8)) 1) new ∙ (in_byte (get_or xs (at / 8) 0) at p e ∙ ap (λ (i : ℕ). eqb (bit_at (get_or xs i 0) (p % 8)) 1 || eqb at p) (sym e))
      | inr n ↦
          let ne : p / 8 ≢ at / 8 = n.1 in
          let not_it : at ≡ p → ⊥ = λ (e : at ≡ p). ne (ap (λ (x : ℕ). x / 8) (sym e)) in
          let new : get_or (slice_set xs (at / 8) (with_bit (get_or xs (at / 8) 0) (at % 8))) (p / 8) 0 ≡ get_or xs (p / 8) 0 = rw get_or-set_other refl in
          ap (λ (b : ℕ). eqb (bit_at b (p % 8)) 1) new ∙ sym (ap (λ (b : Bool). is_set xs p || b) (ne_eqb at p not_it) ∙ or-false (is_set xs p))
    ]

pub range_more : (n : ℕ) → range_with_len 0 (n + 1) ≡ range_with_len 0 n ++ n ∷ []
range_more n = sym (map-id (range_with_len 0 (n + 1))) ∙ (map-range_with_len_more (λ x. x) 0 n n (omega arith) ∙ ap (λ (xs : List ℕ). xs ++ n ∷ []) (map-id (range_with_len 0 n)))

pub among_more : (k bits hash p : ℕ) → is_among (k + 1) bits hash p ≡ (is_among k bits hash p || eqb (place bits hash k) p)
among_more k bits hash p =
    ap (list_any (λ i. eqb (place bits hash i) p)) (range_more k) ∙ (list_any-append (λ i. eqb (place bits hash i) p) (range_with_len 0 k) (k ∷ []) ∙ ap (λ (b : Bool). is_among k bits hash p || b) (or-false (eqb (place bits hash k) p)))

-- one place more
pub goes_on : (k bits hash p : ℕ) (start before after : Bool) → before ≡ (start || is_among k bits hash p) → after ≡ (before || eqb (place bits hash k) p) → after ≡ (start || is_among (k + 1) bits hash p)
goes_on k bits hash p start before after so_far step =
    step ∙ (ap (λ (b : Bool). b || eqb (place bits hash k) p) so_far ∙ (or_assoc start (is_among k bits hash p) (eqb (place bits hash k) p) ∙ ap (λ (b : Bool). start || b) (sym (among_more k bits hash p))))

abbrev zeros : ℕ → List ℕ
zeros n = replicate n 0

abbrev byte : List ℕ → ℕ → ℕ
byte xs i = get_or xs i 0

zero_at : (n i : ℕ) → byte (zeros n) i ≡ 0
zero_at zero i = refl
zero_at (suc n) zero = refl
zero_at (suc n) (suc i) = zero_at n i

pub none_set : (xs : List ℕ) (n p : ℕ) → xs ≡ replicate n 0 → is_set xs p ≡ false
none_set xs n p e =
    ap (λ (ys : List ℕ). is_set ys p) e ∙ ap (λ (b : ℕ). eqb b 1) (ap (λ (x : ℕ). bit_at x (p % 8)) (zero_at n (p / 8)) ∙ bit_at-zero (p % 8))

pub all_taken : (hashes : List ℕ) (i bits size : ℕ) → length hashes ≤ i → bits ≡ size → (p : ℕ) → list_any (λ h. is_place bits h p) (take i hashes) ≡ list_any (λ h. is_place size h p) hashes
all_taken hashes i bits size le e p = ap (λ (m : ℕ). list_any (λ h. is_place m h p) (take i hashes)) e ∙ ap (list_any (λ h. is_place size h p)) (take_all i hashes le)
