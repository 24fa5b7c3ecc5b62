-- Digits at the front, one by one.
use Rattle.std.proofs.Common.{◌≡◌, ℕ, zero, suc, ◌+◌, ◌-◌, ◌*◌, ◌^◌, ◌<◌, ◌≤◌, Bool, true, false, ◌&&◌, List, [], ◌∷◌, refl, ap, arith, Option, Some, None, add-one, lit<, leb-true}
use Rattle.std.specs.Prelude.{nat_le, if◌then◌else◌}
use Rattle.std.proofs.Math.Nat.{pow-succ', pow-le-pow_right}
use Rattle.lt_lang.specs.Numbers.{is_digit}
use Rattle.lt_lang.specs.Reading.{digit_at, digits_at}

-- what is found where the test says so
abbrev found : Bool → ℕ → List ℕ → Option (ℕ × List ℕ)
found t x bs = if◌then◌else◌ {A = Option (ℕ × List ℕ)} t (Some (x, bs)) None

same_pair : (p q : ℕ × List ℕ) → Some p ≡ Some q → p ≡ q
same_pair p q e = cc

took : (t : Bool) (k n digit x : ℕ) (bs rest : List ℕ) (other : ℕ × List ℕ) → found t x bs ≡ Some (digit, rest)
    → (if t then digits_at k (10 * n + x) bs else other) ≡ digits_at k (10 * n + digit) rest
took true k n digit x bs rest other e = ap (λ (p : ℕ × List ℕ). digits_at k (10 * n + p.0) p.1) (same_pair (x, bs) (digit, rest) e)
took false k n digit x bs rest other e = cc

-- a step of the loop
pub digits_at-some : (k n digit : ℕ) (bytes rest : List ℕ) → digit_at bytes ≡ Some (digit, rest) → digits_at (suc k) n bytes ≡ digits_at k (10 * n + digit) rest
digits_at-some k n digit [] rest e = cc
digits_at-some k n digit (b ∷ bs) rest e = took (is_digit b) k n digit (b - 48) bs rest (n, b ∷ bs) e

left : (t : Bool) (x : ℕ) (bs : List ℕ) (more other : ℕ × List ℕ) → found t x bs ≡ None → (if t then more else other) ≡ other
left true x bs more other e = cc
left false x bs more other e = refl

pub digits_at-none : (k n : ℕ) (bytes : List ℕ) → digit_at bytes ≡ None → digits_at k n bytes ≡ (n, bytes)
digits_at-none zero n bytes e = refl
digits_at-none (suc k) n [] e = refl
digits_at-none (suc k) n (b ∷ bs) e = left (is_digit b) (b - 48) bs (digits_at k (10 * n + (b - 48)) bs) (n, b ∷ bs) e

is_below : (s t : Bool) (b digit : ℕ) (bs rest : List ℕ) → (t ≡ true → b ≤ 57) → found (s && t) (b - 48) bs ≡ Some (digit, rest) → digit < 10
is_below true true b digit bs rest high e = let x : b - 48 ≡ digit = ap (λ (p : ℕ × List ℕ). p.0) (same_pair (b - 48, bs) (digit, rest) e) in let h : b ≤ 57 = high refl in omega arith
is_below true false b digit bs rest high e = cc
is_below false t b digit bs rest high e = cc

pub digit_below : (digit : ℕ) (bytes rest : List ℕ) → digit_at bytes ≡ Some (digit, rest) → digit < 10
digit_below digit [] rest e = cc
digit_below digit (b ∷ bs) rest e = is_below (nat_le 48 b) (nat_le b 57) b digit bs rest (leb-true b 57) e

-- one digit more
pub below_more : (k n digit : ℕ) → n < 10 ^ k → digit < 10 → 10 * n + digit < 10 ^ (k + 1)
below_more k n digit h d = rw (add-one, pow-succ') (omega arith)

pub below_all : (k n : ℕ) → n < 10 ^ k → k < 19 → 10 * n + 9 < 2 ^ 64
below_all k n h l =
    let most : 10 ^ k ≤ 10 ^ 18 = pow-le-pow_right {n = 10} (lit< tt) {i = k} {j = 18} (omega arith) in omega arith
