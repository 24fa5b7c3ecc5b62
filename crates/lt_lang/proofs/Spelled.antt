-- Integers: what is read is so spelled, and what is so spelled is read.
use Rattle.std.proofs.Common.{◌≡◌, ℕ, ℤ, pos, neg_ℤ, zero, suc, ◌+◌, ◌-◌, ◌*◌, ◌^◌, ◌<◌, ◌≤◌, Bool, true, false, List, [], ◌∷◌, ◌++◌, length, refl, sym, ◌∙◌, ap, arith, Some, None, inl, inr}
use Rattle.std.specs.Prelude.{nat_eq, nat_le, nat_lt, if◌then◌else◌}
use Rattle.std.specs.List.{list_all}
use Rattle.std.specs.Cmp.{first_so, second_so}
use Rattle.std.proofs.lemmas.Bool.{eqb-true, ltb-true, leb-true, lt-ltb, le-leb}
use Rattle.std.proofs.lemmas.Option.{cond_some}
use Rattle.lt_lang.specs.Numbers.{is_digit, value_from, IsCount, IsMoment, IsUnsigned, IsNegated, IsInteger}
use Rattle.lt_lang.specs.Reading.{digit_at, digits_at, count_at, moment_at, negated_at, unsigned_at, integer_at}
use Rattle.lt_lang.proofs.Digits.{digits_at-some, digits_at-none}
use Rattle.lt_lang.proofs.Taken.{Takes, both, joined}

-- the digits behind others that spell n, which give this number and rest
record TakesDigits (k n : ℕ) (bytes : List ℕ) (p : ℕ × List ℕ) : Type 0 where
  digits : List ℕ
  all : list_all is_digit digits ≡ true
  few : length digits ≤ k
  value : value_from n digits ≡ p.0
  spelled : bytes ≡ digits ++ p.1

digits_at-read : (k n : ℕ) (bytes : List ℕ) → TakesDigits k n bytes (digits_at k n bytes)
digits_at-read zero n bytes = record { digits = []; all = refl; few = omega arith; value = refl; spelled = refl }
digits_at-read (suc k) n [] = record { digits = []; all = refl; few = omega arith; value = refl; spelled = refl }
digits_at-read (suc k) n (b ∷ bs) = by (is_digit b) refl (digits_at-read k (10 * n + (b - 48)) bs)
  where
    by : (t : Bool) → is_digit b ≡ t → TakesDigits k (10 * n + (b - 48)) bs (digits_at k (10 * n + (b - 48)) bs)
        → TakesDigits (suc k) n (b ∷ bs) (if◌then◌else◌ {A = ℕ × List ℕ} t (digits_at k (10 * n + (b - 48)) bs) (n, b ∷ bs))
    by true e more = record { digits = b ∷ more.digits; all = rw e more.all; few = let h = more.few in omega arith; value = more.value; spelled = ap (λ l. b ∷ l) more.spelled }
    by false e more = record { digits = []; all = refl; few = omega arith; value = refl; spelled = refl }

record IsDigitFirst (bytes : List ℕ) (d : ℕ × List ℕ) : Type 0 where
  byte : ℕ
  digit : is_digit byte ≡ true
  value : byte - 48 ≡ d.0
  spelled : bytes ≡ byte ∷ d.1

digit_at-read : (bytes : List ℕ) (d : ℕ × List ℕ) → digit_at bytes ≡ Some d → IsDigitFirst bytes d
digit_at-read [] d e = cc
digit_at-read (b ∷ bs) d e =
    let h = cond_some {A = ℕ × List ℕ} (is_digit b) (b - 48, bs) d e in record {
      byte = b;
      digit = h.0;
      value = ap (λ (p : ℕ × List ℕ). p.0) h.1;
      spelled = ap (λ (p : ℕ × List ℕ). b ∷ p.1) h.1;
    }

same_pair : (p q : ℕ × List ℕ) → Some p ≡ Some q → p ≡ q
same_pair p q e = cc

count_taken : (bytes : List ℕ) (d p : ℕ × List ℕ) → digit_at bytes ≡ Some d → Some (digits_at 19 0 bytes) ≡ Some p → Takes (λ part. IsCount part p.0) bytes p.1
count_taken bytes d p found e =
    let first = digit_at-read bytes d found in
    let whole : digits_at 18 (10 * 0 + d.0) d.1 ≡ p = sym (digits_at-some 18 0 d.0 bytes d.1 found) ∙ same_pair (digits_at 19 0 bytes) p e in
    let more : TakesDigits 18 (10 * 0 + d.0) d.1 p = rw whole at (digits_at-read 18 (10 * 0 + d.0) d.1) in
    let few = more.few in
    record {
      part = first.byte ∷ more.digits;
      is = record { digits = rw first.digit more.all; some = omega arith; few = omega arith; value = rw first.value more.value };
      spelled = first.spelled ∙ ap (λ l. first.byte ∷ l) more.spelled;
    }

pub count_at-read : (bytes : List ℕ) (p : ℕ × List ℕ) → count_at bytes ≡ Some p → Takes (λ part. IsCount part p.0) bytes p.1
unfolding count_at
count_at-read bytes p e = both (digit_at bytes) _ p e (λ d found next. count_taken bytes d p found next)

digits_at-only : (k n : ℕ) (digits rest : List ℕ) → list_all is_digit digits ≡ true → length digits ≤ k → digit_at rest ≡ None
    → digits_at k n (digits ++ rest) ≡ (value_from n digits, rest)
digits_at-only k n [] rest all few e = digits_at-none k n rest e
digits_at-only zero n (d ∷ ds) rest all few e = absurd (omega arith)
digits_at-only (suc k) n (d ∷ ds) rest all few e =
    let first = first_so (is_digit d) (list_all is_digit ds) all in
    rw first (digits_at-only k (10 * n + (d - 48)) ds rest (second_so (is_digit d) (list_all is_digit ds) all) (omega arith) e)

abbrev pair : ℕ → List ℕ → ℕ × List ℕ
pair v rest = (v, rest)

pub count_at-only : (digits : List ℕ) (n : ℕ) (rest : List ℕ) → IsCount digits n → digit_at rest ≡ None → count_at (digits ++ rest) ≡ Some (n, rest)
unfolding count_at
count_at-only [] n rest is e = let h = is.some in absurd (omega arith)
count_at-only (d ∷ ds) n rest is e =
    let first = first_so (is_digit d) (list_all is_digit ds) is.digits in
    joined (digit_at (d ∷ ds ++ rest)) (λ x. Some (digits_at 19 0 (d ∷ ds ++ rest))) (d - 48, ds ++ rest) (n, rest) (rw first refl)
    (ap Some (digits_at-only 19 0 (d ∷ ds) rest is.digits is.few e ∙ ap (λ (v : ℕ). pair v rest) is.value))

pub moment_at-read : (bytes : List ℕ) (p : ℕ × List ℕ) → moment_at bytes ≡ Some p → Takes (λ part. IsMoment part p.0) bytes p.1
unfolding moment_at
moment_at-read bytes p e =
    both (count_at bytes) _ p e (λ n found next.
    let h = cond_some {A = ℕ × List ℕ} (nat_lt n.0 (2 ^ 62)) n p next in
    let t = count_at-read bytes p (found ∙ ap Some h.1) in
    let below : p.0 < 2 ^ 62 = rw (ap (λ (q : ℕ × List ℕ). q.0) h.1) at (ltb-true n.0 (2 ^ 62) h.0) in
    record { part = t.part; is = record { count = t.is; below = below }; spelled = t.spelled })

pub moment_at-only : (bytes : List ℕ) (n : ℕ) (rest : List ℕ) → IsMoment bytes n → digit_at rest ≡ None → moment_at (bytes ++ rest) ≡ Some (n, rest)
unfolding moment_at
moment_at-only bytes n rest is e =
    joined (count_at (bytes ++ rest)) (λ n. if nat_lt n.0 (2 ^ 62) then Some n else None) (n, rest) (n, rest) (count_at-only bytes n rest is.count e)
    (rw (lt-ltb n (2 ^ 62) is.below) refl)

abbrev signed : ℤ → List ℕ → ℤ × List ℕ
signed x rest = (x, rest)

unsigned_at-read : (bytes : List ℕ) (p : ℤ × List ℕ) → unsigned_at bytes ≡ Some p → Takes (λ part. IsUnsigned part p.0) bytes p.1
unfolding unsigned_at
unsigned_at-read bytes p e =
    both (count_at bytes) _ p e (λ n found next.
    let h = cond_some {A = ℤ × List ℕ} (nat_lt n.0 (2 ^ 63)) (pos n.0, n.1) p next in
    let t = count_at-read bytes n found in
    record {
      part = t.part;
      is = record { number = n.0; count = t.is; within = ltb-true n.0 (2 ^ 63) h.0; value = ap (λ (q : ℤ × List ℕ). q.0) h.1 };
      spelled = t.spelled ∙ ap (λ (q : ℤ × List ℕ). t.part ++ q.1) h.1;
    })

unsigned_at-only : (bytes : List ℕ) (x : ℤ) (rest : List ℕ) → IsUnsigned bytes x → digit_at rest ≡ None → unsigned_at (bytes ++ rest) ≡ Some (x, rest)
unfolding unsigned_at
unsigned_at-only bytes x rest is e =
    joined (count_at (bytes ++ rest)) (λ n. if nat_lt n.0 (2 ^ 63) then Some (signed (pos n.0) n.1) else None) (is.number, rest) (x, rest)
    (count_at-only bytes is.number rest is.count e) (rw (lt-ltb is.number (2 ^ 63) is.within, is.value) refl)

-- a number behind its sign
record IsNumberBelow (bytes : List ℕ) (x : ℤ) : Type 0 where
  number : ℕ
  count : IsCount bytes number
  within : number ≤ 2 ^ 63
  value : neg_ℤ (pos number) ≡ x

negated_at-read : (bytes : List ℕ) (p : ℤ × List ℕ) → negated_at bytes ≡ Some p → Takes (λ part. IsNumberBelow part p.0) bytes p.1
unfolding negated_at
negated_at-read bytes p e =
    both (count_at bytes) _ p e (λ n found next.
    let h = cond_some {A = ℤ × List ℕ} (nat_le n.0 (2 ^ 63)) (neg_ℤ (pos n.0), n.1) p next in
    let t = count_at-read bytes n found in
    record {
      part = t.part;
      is = record { number = n.0; count = t.is; within = leb-true n.0 (2 ^ 63) h.0; value = ap (λ (q : ℤ × List ℕ). q.0) h.1 };
      spelled = t.spelled ∙ ap (λ (q : ℤ × List ℕ). t.part ++ q.1) h.1;
    })

negated_at-only : (bytes : List ℕ) (x : ℤ) (rest : List ℕ) → IsNumberBelow bytes x → digit_at rest ≡ None → negated_at (bytes ++ rest) ≡ Some (x, rest)
unfolding negated_at
negated_at-only bytes x rest is e =
    joined (count_at (bytes ++ rest)) (λ n. if nat_le n.0 (2 ^ 63) then Some (signed (neg_ℤ (pos n.0)) n.1) else None) (is.number, rest) (x, rest)
    (count_at-only bytes is.number rest is.count e) (rw (le-leb is.number (2 ^ 63) is.within, is.value) refl)

abbrev unsigned_part : (bytes rest : List ℕ) (x : ℤ) → Takes (λ part. IsUnsigned part x) bytes rest → Takes (λ part. IsInteger part x) bytes rest
unsigned_part bytes rest x t = record { part = t.part; is = inl t.is; spelled = t.spelled }

negated_part : (b : ℕ) (bs rest : List ℕ) (x : ℤ) → b ≡ 45 → Takes (λ part. IsNumberBelow part x) bs rest → Takes (λ part. IsInteger part x) (b ∷ bs) rest
negated_part b bs rest x e t = record {
  part = 45 ∷ t.part;
  is = inr (record { digits = t.part; number = t.is.number; spelled = refl; count = t.is.count; within = t.is.within; value = t.is.value });
  spelled = ap (λ c. c ∷ bs) e ∙ ap (λ l. 45 ∷ l) t.spelled;
}

pub integer_at-read : (bytes : List ℕ) (p : ℤ × List ℕ) → integer_at bytes ≡ Some p → Takes (λ part. IsInteger part p.0) bytes p.1
unfolding integer_at
integer_at-read [] p e = unsigned_part [] p.1 p.0 (unsigned_at-read [] p e)
integer_at-read (b ∷ bs) p e = by (nat_eq b 45) refl e
  where
    by : (t : Bool) → nat_eq b 45 ≡ t → (if t then negated_at bs else unsigned_at (b ∷ bs)) ≡ Some p → Takes (λ part. IsInteger part p.0) (b ∷ bs) p.1
    by true same found = negated_part b bs p.1 p.0 (eqb-true b 45 same) (negated_at-read bs p found)
    by false other found = unsigned_part (b ∷ bs) p.1 p.0 (unsigned_at-read (b ∷ bs) p found)

-- a digit is no sign
no_sign : (d : ℕ) → is_digit d ≡ true → nat_eq d 45 ≡ false
no_sign d e = by (nat_eq d 45) refl
  where
    by : (t : Bool) → nat_eq d 45 ≡ t → t ≡ false
    by true same = let h = eqb-true d 45 same in let low = leb-true 48 d (first_so (nat_le 48 d) (nat_le d 57) e) in absurd (omega arith)
    by false other = refl

unsigned_first : (bytes : List ℕ) (x : ℤ) (rest : List ℕ) → IsUnsigned bytes x → digit_at rest ≡ None → integer_at (bytes ++ rest) ≡ Some (x, rest)
unfolding integer_at
unsigned_first [] x rest is e = let h = is.count.some in absurd (omega arith)
unsigned_first (d ∷ ds) x rest is e = rw (no_sign d (first_so (is_digit d) (list_all is_digit ds) is.count.digits)) (unsigned_at-only (d ∷ ds) x rest is e)

negated_first : (bytes : List ℕ) (x : ℤ) (rest : List ℕ) → IsNegated bytes x → digit_at rest ≡ None → integer_at (bytes ++ rest) ≡ Some (x, rest)
unfolding integer_at
negated_first bytes x rest is e =
    let below : IsNumberBelow is.digits x = record { number = is.number; count = is.count; within = is.within; value = is.value } in
    ap (λ l. integer_at (l ++ rest)) is.spelled ∙ negated_at-only is.digits x rest below e

pub integer_at-only : (bytes : List ℕ) (x : ℤ) (rest : List ℕ) → IsInteger bytes x → digit_at rest ≡ None → integer_at (bytes ++ rest) ≡ Some (x, rest)
integer_at-only bytes x rest (inl is) e = unsigned_first bytes x rest is e
integer_at-only bytes x rest (inr is) e = negated_first bytes x rest is e
