-- A run of digits that is read at once.
use Rattle.std.proofs.Common.{◌≡◌, ℕ, zero, suc, ◌+◌, ◌-◌, ◌*◌, ◌%◌, ◌^◌, ◌<◌, ◌≤◌, Bool, true, false, cond, ◌&&◌, List, [], ◌∷◌, length, take, drop, refl, sym, ◌∙◌, ap, subst, arith, one-add, add-one, lit<, leb-true}
use Rattle.std.specs.Prelude.{nat_le, slice_range, if◌then◌else◌}
use Rattle.std.specs.List.{prefix_len}
use Rattle.std.specs.Cmp.{first_so, second_so}
use Rattle.std.specs.Char.{digit_value}
use Rattle.std.specs.Str.Parse.{digits_value, digits_value_after}
use Rattle.std.proofs.Math.Nat.{pow-le-pow_right}
use Rattle.std.proofs.lemmas.Bool.Decides.{nat_tests}
use Rattle.lt_lang.specs.Numbers.{is_digit}
use Rattle.lt_lang.specs.Reading.{digits_at}
use Rattle.lt_lang.proofs.Digits.{below_more}

abbrev run_len : List ℕ → ℕ
run_len bytes = prefix_len is_digit bytes

digit_worth : (b : ℕ) → is_digit b ≡ true → (digit_value b ≡ b - 48) × (b - 48 < 10)
digit_worth b e =
    let least = leb-true 48 b (first_so (nat_le 48 b) (nat_le b 57) e) in
    let most = leb-true b 57 (second_so (nat_le 48 b) (nat_le b 57) e) in
    (grind (arith, nat_tests, least, most), omega arith)

pub run_at : (k n : ℕ) (bytes : List ℕ) → run_len bytes ≤ k → digits_at k n bytes ≡ (digits_value_after 10 n (take (run_len bytes) bytes), drop (run_len bytes) bytes)
run_at zero n [] few = refl
run_at (suc k) n [] few = refl
run_at zero n (b ∷ bs) few = by (is_digit b) few
  where
    by : (t : Bool) → (if t then 1 + run_len bs else 0) ≤ 0
        → ◌≡◌ {A = ℕ × List ℕ} (n, b ∷ bs) (digits_value_after 10 n (take (if t then 1 + run_len bs else 0) (b ∷ bs)), drop (if t then 1 + run_len bs else 0) (b ∷ bs))
    by true few = absurd (omega arith)
    by false few = refl
run_at (suc k) n (b ∷ bs) few = by (is_digit b) refl few (run_at k (10 * n + (b - 48)) bs)
  where
    by : (t : Bool) → is_digit b ≡ t → (if t then 1 + run_len bs else 0) ≤ suc k
        → (run_len bs ≤ k → digits_at k (10 * n + (b - 48)) bs ≡ (digits_value_after 10 (10 * n + (b - 48)) (take (run_len bs) bs), drop (run_len bs) bs))
        → (if t then digits_at k (10 * n + (b - 48)) bs else (n, b ∷ bs)) ≡ (digits_value_after 10 n (take (if t then 1 + run_len bs else 0) (b ∷ bs)), drop (if t then 1 + run_len bs else 0) (b ∷ bs))
    by true is few more =
        let worth : 10 * n + (b - 48) ≡ n * 10 + digit_value b = omega (arith, (digit_worth b is).0) in
        rw one-add (more (omega arith) ∙ ap (λ (m : ℕ). (digits_value_after 10 m (take (run_len bs) bs), drop (run_len bs) bs)) worth)
    by false is few more = refl

run_below : (j n : ℕ) (bytes : List ℕ) → n < 10 ^ j → digits_value_after 10 n (take (run_len bytes) bytes) < 10 ^ (j + run_len bytes)
run_below j n [] below = subst (λ (m : ℕ). n < 10 ^ m) (omega arith) below
run_below j n (b ∷ bs) below = by (is_digit b) refl (run_below (j + 1) (n * 10 + digit_value b) bs)
  where
    by : (t : Bool) → is_digit b ≡ t
        → (n * 10 + digit_value b < 10 ^ (j + 1) → digits_value_after 10 (n * 10 + digit_value b) (take (run_len bs) bs) < 10 ^ (j + 1 + run_len bs))
        → digits_value_after 10 n (take (if t then 1 + run_len bs else 0) (b ∷ bs)) < 10 ^ (j + (if t then 1 + run_len bs else 0))
    by true is more =
        let worth = digit_worth b is in
        let least : 10 * n + digit_value b < 10 ^ (j + 1) = below_more j n (digit_value b) below (omega (arith, worth.0, worth.1)) in
        let all = more (subst (λ (m : ℕ). m < 10 ^ (j + 1)) (omega arith) least) in
        let same : j + 1 + run_len bs ≡ j + suc (run_len bs) = omega arith in
        rw one-add (subst (λ (m : ℕ). digits_value_after 10 (n * 10 + digit_value b) (take (run_len bs) bs) < 10 ^ m) same all)
    by false is more = subst (λ (m : ℕ). n < 10 ^ m) (omega arith) below

pub run_read : (bytes : List ℕ) (len number : ℕ) (rest : List ℕ) → len ≡ 0 + prefix_len is_digit (drop 0 bytes) → number ≡ (0 * 10 ^ (len - 0) + digits_value 10 (slice_range bytes 0 len)) % 2 ^ 64
    → rest ≡ drop len bytes → len ≤ 19 → ◌≡◌ {A = ℕ × List ℕ} (number, rest) (digits_at 19 0 bytes)
run_read bytes len number rest size value behind few =
    let n : len ≡ run_len bytes = omega (arith, size) in
    let read = run_at 19 0 bytes (omega (arith, n)) in
    let most : 10 ^ (0 + run_len bytes) ≤ 10 ^ 19 = pow-le-pow_right {n = 10} (lit< tt) {i = 0 + run_len bytes} {j = 19} (omega (arith, n)) in
    let below = run_below 0 0 bytes (omega arith) in
    let ranged : slice_range bytes 0 len ≡ take len bytes = ap (λ (m : ℕ). take m bytes) (omega arith) in
    let same : number ≡ digits_value 10 (take len bytes) = omega (arith, value, ap (digits_value 10) ranged, ap (λ (m : ℕ). digits_value 10 (take m bytes)) n, below, most) in
    rw (same, behind, n) (sym read)
