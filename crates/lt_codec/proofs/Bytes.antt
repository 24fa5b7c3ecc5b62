-- How spelled values compare byte by byte.
use Rattle.std.proofs.Common.{◌≡◌, ℕ, zero, suc, ◌+◌, ◌*◌, ◌/◌, ◌%◌, ◌^◌, ◌<◌, ◌≤◌, ℤ, pos, negsuc, Bool, true, false, cond, eqb, List, [], ◌∷◌, ◌++◌, refl, sym, ap, ◌∙◌, arith, Ordering, Less, Equal, Greater}
use Rattle.std.specs.Prelude.{IsTrue}
use Rattle.std.specs.Ordering.{nat_cmp, int_cmp, ordering_then}
use Rattle.std.specs.Cmp.Lexicographic.{slice_cmp}
use Rattle.std.proofs.lemmas.Bool.Decides.{nat_tests}
use Rattle.lt_rec.proofs.NumberOrder.{IsByBytes, then_assoc, less_is, equal_is, more_is}
use Rattle.lt_codec.specs.Spelling.{turned, escaped}
use Rattle.lt_codec.specs.Ordering.{is_word}

pub turned_fits : (z : ℤ) → IsTrue (is_word z) → turned z < 2 ^ 64
turned_fits (pos n) word = grind (arith, nat_tests)
turned_fits (negsuc n) word = omega arith

pub turned_cmp : (x y : ℤ) → IsTrue (is_word x) → IsTrue (is_word y) → nat_cmp (turned x) (turned y) ≡ int_cmp x y
turned_cmp (pos m) (pos n) left right = grind (arith, nat_tests)
turned_cmp (pos m) (negsuc n) left right = grind (arith, nat_tests)
turned_cmp (negsuc m) (pos n) left right = grind (arith, nat_tests)
turned_cmp (negsuc m) (negsuc n) left right = grind (arith, nat_tests)

pub moments_cmp : (m n : ℕ) → nat_cmp m n ≡ int_cmp (pos m) (pos n)
moments_cmp m n = grind (arith, nat_tests)

-- ---- texts and bytes

abbrev spelled_byte : Bool → ℕ → List ℕ → List ℕ
spelled_byte nil b rest = cond nil (0 ∷ 255 ∷ rest) (b ∷ rest)

less_by : (compare : List ℕ → List ℕ → Ordering) → IsByBytes compare → (nil : Bool) (y : ℕ) (rest r s : List ℕ) → eqb y 0 ≡ nil → compare (0 ∷ 0 ∷ r) (spelled_byte nil y rest ++ s) ≡ Less
less_by compare by true y rest r s is = by 0 0 (0 ∷ r) (255 ∷ (rest ++ s)) ∙ by 0 255 r (rest ++ s)
less_by compare by false y rest r s is =
    let some : 0 < y = grind (arith, nat_tests) in
    by 0 y (0 ∷ r) (rest ++ s) ∙ ap (λ (o : Ordering). ordering_then o (compare (0 ∷ r) (rest ++ s))) (less_is 0 y some)

more_by : (compare : List ℕ → List ℕ → Ordering) → IsByBytes compare → (nil : Bool) (x : ℕ) (rest r s : List ℕ) → eqb x 0 ≡ nil → compare (spelled_byte nil x rest ++ r) (0 ∷ 0 ∷ s) ≡ Greater
more_by compare by true x rest r s is = by 0 0 (255 ∷ (rest ++ r)) (0 ∷ s) ∙ by 255 0 (rest ++ r) s
more_by compare by false x rest r s is =
    let some : 0 < x = grind (arith, nat_tests) in
    by x 0 (rest ++ r) (0 ∷ s) ∙ ap (λ (o : Ordering). ordering_then o (compare (rest ++ r) (0 ∷ s))) (more_is x 0 some)

both_by : (compare : List ℕ → List ℕ → Ordering) → IsByBytes compare → (zero_x zero_y : Bool) (x y : ℕ) (xs ys r s : List ℕ) → eqb x 0 ≡ zero_x → eqb y 0 ≡ zero_y
    → compare (spelled_byte zero_x x xs ++ r) (spelled_byte zero_y y ys ++ s) ≡ ordering_then (nat_cmp x y) (compare (xs ++ r) (ys ++ s))
both_by compare by true true x y xs ys r s is_x is_y =
    let same : x ≡ y = grind (arith, nat_tests) in
    by 0 0 (255 ∷ (xs ++ r)) (255 ∷ (ys ++ s)) ∙ by 255 255 (xs ++ r) (ys ++ s) ∙ ap (λ (o : Ordering). ordering_then o (compare (xs ++ r) (ys ++ s))) (sym (equal_is x y same))
both_by compare by true false x y xs ys r s is_x is_y =
    let less : x < y = grind (arith, nat_tests) in
    let some : 0 < y = grind (arith, nat_tests) in
    by 0 y (255 ∷ (xs ++ r)) (ys ++ s) ∙ ap (λ (o : Ordering). ordering_then o (compare (255 ∷ (xs ++ r)) (ys ++ s))) (less_is 0 y some)
    ∙ ap (λ (o : Ordering). ordering_then o (compare (xs ++ r) (ys ++ s))) (sym (less_is x y less))
both_by compare by false true x y xs ys r s is_x is_y =
    let more : y < x = grind (arith, nat_tests) in
    let some : 0 < x = grind (arith, nat_tests) in
    by x 0 (xs ++ r) (255 ∷ (ys ++ s)) ∙ ap (λ (o : Ordering). ordering_then o (compare (xs ++ r) (255 ∷ (ys ++ s)))) (more_is x 0 some)
    ∙ ap (λ (o : Ordering). ordering_then o (compare (xs ++ r) (ys ++ s))) (sym (more_is x y more))
both_by compare by false false x y xs ys r s is_x is_y = by x y (xs ++ r) (ys ++ s)

pub texts : (compare : List ℕ → List ℕ → Ordering) → IsByBytes compare → (xs ys r s : List ℕ) → compare (escaped xs ++ r) (escaped ys ++ s) ≡ ordering_then (slice_cmp nat_cmp xs ys) (compare r s)
unfolding escaped
texts compare by [] [] r s = by 0 0 (0 ∷ r) (0 ∷ s) ∙ by 0 0 r s
texts compare by [] (y ∷ ys) r s = less_by compare by (eqb y 0) y (escaped ys) r s refl
texts compare by (x ∷ xs) [] r s = more_by compare by (eqb x 0) x (escaped xs) r s refl
texts compare by (x ∷ xs) (y ∷ ys) r s =
    both_by compare by (eqb x 0) (eqb y 0) x y (escaped xs) (escaped ys) r s refl refl
    ∙ ap (λ (o : Ordering). ordering_then (nat_cmp x y) o) (texts compare by xs ys r s)
    ∙ sym (then_assoc (nat_cmp x y) (slice_cmp nat_cmp xs ys) (compare r s))
