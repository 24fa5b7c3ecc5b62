-- Fields with a test, and numbers and bytes that are expected.
use Rattle.std.proofs.Common.{◌≡◌, ℕ, suc, ◌+◌, ◌<◌, Bool, true, false, cond, eqb, List, [], ◌∷◌, ◌++◌, Result, Ok, Err, refl, sym, ap, subst, ◌∙◌, append_assoc, ◌^◌}
use Rattle.std.specs.Prelude.{nat_eq}
use Rattle.std.specs.Cmp.Lexicographic.{pointwise}
use Rattle.std.specs.Int.{w64, to_be_bytes}
use Rattle.std.proofs.lemmas.Bool.{eqb-true, eq-eqb, and_parts, and_from}
use Rattle.lt_rec.specs.Reading.{◌>>=◌, number_at, asked}
use Rattle.lt_rec.proofs.Reading.{IsBytes, bind_ok, ok_is, Takes, Takes-then, wide64, number_takes, number_again, asked_ok, asked_again}
use Rattle.lt_layout.specs.Spelling.{numbers}
use Rattle.lt_layout.specs.Reading.{numbers_at, same_at}

-- ---- equal bytes

pub same_bytes : (xs ys : List ℕ) → pointwise nat_eq xs ys ≡ true → xs ≡ ys
same_bytes [] [] e = refl
same_bytes [] (y ∷ ys) e = absurd cc
same_bytes (x ∷ xs) [] e = absurd cc
same_bytes (x ∷ xs) (y ∷ ys) e =
    let b = and_parts (nat_eq x y) (pointwise nat_eq xs ys) e in
    let h : x ≡ y = eqb-true x y b.0 in
    ap (λ (z : ℕ). z ∷ xs) h ∙ ap (λ (zs : List ℕ). y ∷ zs) (same_bytes xs ys b.1)

pub bytes_same : (xs : List ℕ) → pointwise nat_eq xs xs ≡ true
bytes_same [] = refl
bytes_same (x ∷ xs) = and_from (nat_eq x x) (pointwise nat_eq xs xs) (eq-eqb x x refl) (bytes_same xs)

pub bytes_same_by : (xs ys : List ℕ) → xs ≡ ys → pointwise nat_eq xs ys ≡ true
bytes_same_by xs ys e = ap (λ (t : List ℕ). pointwise nat_eq xs t) (sym e) ∙ bytes_same xs

pub same_at_ok : (at : ℕ) (xs ys : List ℕ) (u : Unit {0}) → same_at at xs ys ≡ Ok u → xs ≡ ys
same_at_ok at [] [] u e = refl
same_at_ok at [] (y ∷ ys) u e = absurd cc
same_at_ok at (x ∷ xs) [] u e = absurd cc
same_at_ok at (x ∷ xs) (y ∷ ys) u e = next (eqb x y) refl (same_at_ok (suc at) xs ys u) e
  where
    next : (b : Bool) → eqb x y ≡ b → (same_at (suc at) xs ys ≡ Ok u → xs ≡ ys) → cond b (same_at (suc at) xs ys) (Err at) ≡ Ok u → (x ∷ xs) ≡ y ∷ ys
    next true t go r = ap (λ (z : ℕ). z ∷ xs) (eqb-true x y t) ∙ ap (λ (zs : List ℕ). y ∷ zs) (go r)
    next false t go r = absurd cc

pub same_at_again : (at : ℕ) (xs : List ℕ) → same_at at xs xs ≡ Ok tt
same_at_again at [] = refl
same_at_again at (x ∷ xs) = ap (λ (b : Bool). cond b (same_at (suc at) xs xs) (Err at)) (eq-eqb x x refl) ∙ same_at_again (suc at) xs

-- ---- numbers that are expected

abbrev rest_at : List ℕ → ℕ → ℕ × List ℕ → Result (List ℕ) ℕ
rest_at ns at x = numbers_at ns (at + 8) x.1

pub numbers_take : (ns : List ℕ) (at : ℕ) (bytes rest : List ℕ) → IsBytes bytes → numbers_at ns at bytes ≡ Ok rest → Takes bytes (numbers ns) rest
numbers_take [] at bytes rest fits e = subst (Takes bytes []) (ok_is bytes rest e) (record { parts = refl; rest_fits = fits })
numbers_take (n ∷ ns) at bytes rest fits e =
    let a = bind_ok (asked (nat_eq n) at (number_at w64 at bytes)) (rest_at ns at) rest e in
    let b = asked_ok (nat_eq n) at (number_at w64 at bytes) a.0 a.1 in
    let t = number_takes w64 (2 ^ 64) wide64 at bytes a.0 fits b.0 in
    let same : a.0.0 ≡ n = sym (eqb-true n a.0.0 b.1) in
    let first : Takes bytes (to_be_bytes w64 n) a.0.1 = subst (λ (m : ℕ). Takes bytes (to_be_bytes w64 m) a.0.1) same t.0 in
    Takes-then bytes (to_be_bytes w64 n) a.0.1 (numbers ns) rest first (numbers_take ns (at + 8) a.0.1 rest first.rest_fits a.2)

-- each of them has at most eight bytes
abbrev pub Short : List ℕ → Type 0
Short [] = Unit {0}
Short (n ∷ ns) = (n < 2 ^ 64) × Short ns

pub numbers_again : (ns : List ℕ) (at : ℕ) (rest : List ℕ) → Short ns → numbers_at ns at (numbers ns ++ rest) ≡ Ok rest
numbers_again [] at rest h = refl
numbers_again (n ∷ ns) at rest h =
    ap (λ (t : List ℕ). numbers_at (n ∷ ns) at t) (append_assoc (to_be_bytes w64 n) (numbers ns) rest)
    ∙ (ap (λ (q : Result (ℕ × List ℕ) ℕ). q >>= rest_at ns at) (asked_again (nat_eq n) at (number_at w64 at (to_be_bytes w64 n ++ (numbers ns ++ rest))) (n, numbers ns ++ rest) (number_again w64 (2 ^ 64) wide64 at n (numbers ns ++ rest) h.0) (eq-eqb n n refl))
    ∙ numbers_again ns (at + 8) rest h.1)
