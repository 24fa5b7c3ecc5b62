-- The bytes of a filter by their bits, and that it admits its members.
use Rattle.std.proofs.Common.{◌≡◌, ℕ, zero, suc, ◌+◌, ◌-◌, ◌*◌, ◌/◌, ◌%◌, ◌^◌, ◌<◌, Bool, true, false, cond, eqb, ◌&&◌, List, length, get_or, refl, sym, ap, ◌∙◌, arith, inl, inr}
use Rattle.std.specs.Prelude.{Contains}
use Rattle.std.specs.Int.{bit_at}
use Rattle.std.specs.List.{list_all, range_with_len}
use Rattle.std.proofs.lemmas.Bool.{cases_lt, eq-eqb}
use Rattle.std.proofs.lemmas.Nat.Bits.{bit_at_cat_low, bit_at_cat_high, bit_at_lowest, bit_at-lt, same_from_bits_below}
use Rattle.std.proofs.lemmas.List.Folds.{list_any_at}
use Rattle.std.proofs.lemmas.List.FromFn.{length-range_with_len, get_or-range_with_len, length-map-range_with_len, get_or-map-range_with_len, fill_by_all}
use Rattle.lt_bloom.specs.Filter.{bytes_for, place, is_place, is_set, number_of, is_probed, filter_bytes, admits}

bit_below : (b : Bool) (n r : ℕ) → r < 2 ^ n → cond b 1 0 * 2 ^ n + r < 2 ^ (suc n)
bit_below true n r h = grind arith
bit_below false n r h = grind arith

number_below : (test : ℕ → Bool) (n : ℕ) → number_of test n < 2 ^ n
number_below test zero = omega arith
number_below test (suc n) = bit_below (test n) n (number_of test n) (number_below test n)

low_bit : (b : Bool) → cond b 1 0 % 2 ≡ cond b 1 0
low_bit true = refl
low_bit false = refl

number_bit : (test : ℕ → Bool) (n i : ℕ) → i < n → bit_at (number_of test n) i ≡ cond (test i) 1 0
number_bit test zero i lt = absurd (omega arith)
number_bit test (suc n) i lt =
    elim (cases_lt i n) [
      | inl below ↦ bit_at_cat_low (cond (test n) 1 0) n (number_of test n) i below ∙ number_bit test n i below
      | inr le ↦
          let here : i ≡ n = omega arith in
          let first : i - n ≡ 0 = omega arith in
          bit_at_cat_high (cond (test n) 1 0) n (number_of test n) i (number_below test n) le ∙ (ap (bit_at (cond (test n) 1 0)) first ∙ (bit_at_lowest (cond (test n) 1 0) ∙ (low_bit (test n) ∙ ap (λ (k : ℕ). cond (test k) 1 0) (sym here))))
    ]

bit_again : (b : Bool) → eqb (cond b 1 0) 1 ≡ b
bit_again true = refl
bit_again false = refl

bit_read : (x : ℕ) → x < 2 → x ≡ cond (eqb x 1) 1 0
bit_read zero lt = refl
bit_read (suc zero) lt = refl
bit_read (suc (suc x)) lt = absurd (omega arith)

filter_at : (hashes : List ℕ) (k : ℕ) → k < bytes_for (length hashes) → get_or (filter_bytes hashes) k 0 ≡ number_of (λ i. is_probed hashes (8 * k + i)) 8
unfolding filter_bytes
filter_at hashes k lt = get_or-map-range_with_len (λ k. number_of (λ i. is_probed hashes (8 * k + i)) 8) 0 (bytes_for (length hashes)) k k 0 lt (omega arith)

pub filter_len : (hashes : List ℕ) → length (filter_bytes hashes) ≡ bytes_for (length hashes)
unfolding filter_bytes
filter_len hashes = length-map-range_with_len (λ k. number_of (λ i. is_probed hashes (8 * k + i)) 8) 0 (bytes_for (length hashes))

filter_set : (hashes : List ℕ) (p : ℕ) → p < 8 * bytes_for (length hashes) → is_set (filter_bytes hashes) p ≡ is_probed hashes p
filter_set hashes p lt =
    let k : p / 8 < bytes_for (length hashes) = omega arith in
    let i : p % 8 < 8 = omega arith in
    let whole : 8 * (p / 8) + p % 8 ≡ p = omega arith in
    ap (λ (b : ℕ). eqb (bit_at b (p % 8)) 1) (filter_at hashes (p / 8) k)
    ∙ (ap (λ (b : ℕ). eqb b 1) (number_bit (λ i. is_probed hashes (8 * (p / 8) + i)) 8 (p % 8) i)
    ∙ (bit_again (is_probed hashes (8 * (p / 8) + p % 8)) ∙ ap (is_probed hashes) whole))

-- bytes whose set bits are the probed ones are the filter
pub filled : (bytes hashes : List ℕ) → ((i : ℕ) → get_or bytes i 0 < 256) → length bytes ≡ bytes_for (length hashes) → ((p : ℕ) → is_set bytes p ≡ is_probed hashes p) → bytes ≡ filter_bytes hashes
unfolding filter_bytes
filled bytes hashes fits len set =
    fill_by_all (λ k. number_of (λ i. is_probed hashes (8 * k + i)) 8) bytes (bytes_for (length hashes)) 0 len (λ k lt.
    same_from_bits_below 8 (get_or bytes k 0) (number_of (λ i. is_probed hashes (8 * k + i)) 8) (fits k) (number_below (λ i. is_probed hashes (8 * k + i)) 8) (λ i below.
    let byte : (8 * k + i) / 8 ≡ k = omega arith in
    let place : (8 * k + i) % 8 ≡ i = omega arith in
    let here : eqb (bit_at (get_or bytes k 0) i) 1 ≡ is_probed hashes (8 * k + i) =
    sym (ap (λ (b : ℕ). eqb (bit_at (get_or bytes b 0) ((8 * k + i) % 8)) 1) byte ∙ ap (λ (j : ℕ). eqb (bit_at (get_or bytes k 0) j) 1) place) ∙ set (8 * k + i) in
    bit_read (bit_at (get_or bytes k 0) i) (bit_at-lt (get_or bytes k 0) i) ∙ (ap (λ (b : Bool). cond b 1 0) here ∙ sym (number_bit (λ i. is_probed hashes (8 * k + i)) 8 i below))))

both : (a b : Bool) → a ≡ true → b ≡ true → (a && b) ≡ true
both a b p q = rw (p, q) refl

all_in_range : (test : ℕ → Bool) (a n : ℕ) → ((i : ℕ) → i < a + n → test i ≡ true) → list_all test (range_with_len a n) ≡ true
all_in_range test a zero h = refl
all_in_range test a (suc n) h = both (test a) (list_all test (range_with_len (a + 1) n)) (h a (omega arith)) (all_in_range test (a + 1) n (λ i lt. h i (omega arith)))

is_own_place : (bits hash i : ℕ) → i < 7 → is_place bits hash (place bits hash i) ≡ true
unfolding is_place
is_own_place bits hash i lt =
    list_any_at (λ j. eqb (place bits hash j) (place bits hash i)) (range_with_len 0 7) i 0 (omega (arith, length-range_with_len 0 7))
    (ap (λ (j : ℕ). eqb (place bits hash j) (place bits hash i)) (get_or-range_with_len 0 7 i 0 lt ∙ (omega arith)) ∙ eq-eqb (place bits hash i) (place bits hash i) refl)

pub is_member : (bytes hashes : List ℕ) (hash : ℕ) → bytes ≡ filter_bytes hashes → Contains hashes hash → admits bytes hash ≡ true
unfolding admits
is_member bytes hashes hash e member =
    let at : ℕ = member.0 in
    let some : at < length hashes = member.1 in
    let own : get_or hashes at hash ≡ hash = member.2 in
    let size : 8 * length bytes ≡ 8 * bytes_for (length hashes) = ap (λ (xs : List ℕ). 8 * length xs) e ∙ ap (λ (n : ℕ). 8 * n) (filter_len hashes) in
    all_in_range (λ i. is_set bytes (place (8 * length bytes) hash i)) 0 7 (λ i lt.
    let bits : ℕ = 8 * bytes_for (length hashes) in
    let below : place (8 * bytes_for (length hashes)) hash i < 8 * bytes_for (length hashes) = omega arith in
    let is : is_set bytes (place (8 * length bytes) hash i) ≡ is_probed hashes (place (8 * bytes_for (length hashes)) hash i) =
    ap (λ (m : ℕ). is_set bytes (place m hash i)) size ∙ (ap (λ (xs : List ℕ). is_set xs (place (8 * bytes_for (length hashes)) hash i)) e ∙ filter_set hashes (place (8 * bytes_for (length hashes)) hash i) below) in
    is ∙ list_any_at (λ h. is_place (8 * bytes_for (length hashes)) h (place (8 * bytes_for (length hashes)) hash i)) hashes at hash some
    (ap (λ (h : ℕ). is_place (8 * bytes_for (length hashes)) h (place (8 * bytes_for (length hashes)) hash i)) own ∙ is_own_place (8 * bytes_for (length hashes)) hash i (omega arith)))
