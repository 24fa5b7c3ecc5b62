-- Numbers and bytes that are expected, as loops read them one after the other.
use Rattle.std.proofs.Common.{◌≡◌, ℕ, suc, ◌+◌, ◌-◌, ◌<◌, ◌≤◌, Bool, true, false, cond, List, [], ◌∷◌, length, get_or, drop, Result, Ok, Err, sym, ap, ◌∙◌, arith}
use Rattle.std.specs.Prelude.{nat_eq, min}
use Rattle.std.specs.Int.{w64}
use Rattle.std.proofs.lemmas.Bool.{eq-eqb, ne_eqb}
use Rattle.std.proofs.lemmas.List.{at_drop_more, at_drop_all, length-drop}
use Rattle.lt_rec.specs.Reading.{◌>>=◌, number_at, asked, holds}
use Rattle.lt_layout.specs.Reading.{numbers_at, same_at}
use Rattle.lt_rec.proofs.Reading.{holds_ok}

abbrev rest_at : List ℕ → ℕ → ℕ × List ℕ → Result (List ℕ) ℕ
rest_at ns at x = numbers_at ns (at + 8) x.1

abbrev read_from : (n at : ℕ) (ns : List ℕ) → Result (ℕ × List ℕ) ℕ → Result (List ℕ) ℕ
read_from n at ns read = asked (nat_eq n) at read >>= rest_at ns at

first_of : (ns : List ℕ) (i at : ℕ) (bytes : List ℕ) (read : Result (ℕ × List ℕ) ℕ) → i < length ns → number_at w64 at bytes ≡ read → numbers_at (drop i ns) at bytes ≡ read_from (get_or ns i 0) at (drop (i + 1) ns) read
first_of ns i at bytes read lt q =
    at_drop_more (λ (l : List ℕ). numbers_at l at bytes) ns i 0 lt ∙ ap (read_from (get_or ns i 0) at (drop (i + 1) ns)) q

pub numbers_more : (ns : List ℕ) (i at n : ℕ) (bytes after : List ℕ) (u : Unit {0}) → i < length ns → number_at w64 at bytes ≡ Ok (n, after) → holds (nat_eq (get_or ns i 0) n) at ≡ Ok u → numbers_at (drop i ns) at bytes ≡ numbers_at (drop (i + 1) ns) (at + 8) after
numbers_more ns i at n bytes after u lt q h =
    first_of ns i at bytes (Ok (n, after)) lt q ∙ ap (λ (b : Bool). cond b (Ok (n, after)) (Err at) >>= rest_at (drop (i + 1) ns) at) (holds_ok (nat_eq (get_or ns i 0) n) at u h)

pub numbers_short : (ns : List ℕ) (i at f : ℕ) (bytes : List ℕ) → i < length ns → number_at w64 at bytes ≡ Err f → numbers_at (drop i ns) at bytes ≡ Err f
numbers_short ns i at f bytes lt q = first_of ns i at bytes (Err f) lt q

pub numbers_other : (ns : List ℕ) (i at n f : ℕ) (bytes after : List ℕ) → i < length ns → number_at w64 at bytes ≡ Ok (n, after) → holds (nat_eq (get_or ns i 0) n) at ≡ Err f → numbers_at (drop i ns) at bytes ≡ Err f
numbers_other ns i at n f bytes after lt q h =
    first_of ns i at bytes (Ok (n, after)) lt q ∙ fails (nat_eq (get_or ns i 0) n) h
  where
    fails : (b : Bool) → holds b at ≡ Err f → (cond b (Ok (n, after)) (Err at) >>= rest_at (drop (i + 1) ns) at) ≡ Err f
    fails true h = absurd cc
    fails false h = err_same at f h
      where
        err_same : (x y : ℕ) → holds false x ≡ Err y → (cond false (Ok (n, after)) (Err x) >>= rest_at (drop (i + 1) ns) at) ≡ Err y
        err_same x y h = let e : x ≡ y = cc in ap (λ (z : ℕ). cond false (Ok (n, after)) (Err z) >>= rest_at (drop (i + 1) ns) at) e

pub numbers_end : (ns : List ℕ) (i at : ℕ) (bytes : List ℕ) → length ns ≤ i → numbers_at (drop i ns) at bytes ≡ Ok bytes
numbers_end ns i at bytes le = at_drop_all (λ (l : List ℕ). numbers_at l at bytes) ns i le

-- ---- equal bytes

firsts : (xs ys : List ℕ) (at i : ℕ) → i < length xs → i < length ys → same_at (at + i) (drop i xs) (drop i ys) ≡ cond (nat_eq (get_or xs i 0) (get_or ys i 0)) (same_at (suc (at + i)) (drop (i + 1) xs) (drop (i + 1) ys)) (Err (at + i))
firsts xs ys at i lt lu =
    at_drop_more (λ (l : List ℕ). same_at (at + i) l (drop i ys)) xs i 0 lt ∙ at_drop_more (λ (l : List ℕ). same_at (at + i) (get_or xs i 0 ∷ drop (i + 1) xs) l) ys i 0 lu

pub same_more : (xs ys : List ℕ) (at i : ℕ) (u : Unit {0}) → i < length xs → i < length ys → holds (nat_eq (get_or xs i 0) (get_or ys i 0)) (at + i) ≡ Ok u → same_at (at + i) (drop i xs) (drop i ys) ≡ same_at (at + (i + 1)) (drop (i + 1) xs) (drop (i + 1) ys)
same_more xs ys at i u lt lu h =
    firsts xs ys at i lt lu
    ∙ (ap (λ (b : Bool). cond b (same_at (suc (at + i)) (drop (i + 1) xs) (drop (i + 1) ys)) (Err (at + i))) (holds_ok (nat_eq (get_or xs i 0) (get_or ys i 0)) (at + i) u h)
    ∙ ap (λ (n : ℕ). same_at n (drop (i + 1) xs) (drop (i + 1) ys)) (next at i))
  where
    next : (a b : ℕ) → suc (a + b) ≡ a + (b + 1)
    next a b = omega arith

pub same_other : (xs ys : List ℕ) (at i f : ℕ) → i < length xs → i < length ys → holds (nat_eq (get_or xs i 0) (get_or ys i 0)) (at + i) ≡ Err f → same_at (at + i) (drop i xs) (drop i ys) ≡ Err f
same_other xs ys at i f lt lu h =
    firsts xs ys at i lt lu ∙ fails (nat_eq (get_or xs i 0) (get_or ys i 0)) (same_at (suc (at + i)) (drop (i + 1) xs) (drop (i + 1) ys)) h
  where
    fails : (b : Bool) (rest : Result (Unit {0}) ℕ) → holds b (at + i) ≡ Err f → cond b rest (Err (at + i)) ≡ Err f
    fails true rest h = absurd cc
    fails false rest h = h

pub same_end : (xs ys : List ℕ) (at i : ℕ) → i ≡ min (length xs) (length ys) → same_at (at + i) (drop i xs) (drop i ys) ≡ holds (nat_eq (length xs) (length ys)) (at + i)
same_end xs ys at i e = ended (drop i xs) (drop i ys) (length-drop i xs) (length-drop i ys)
  where
    ended : (us vs : List ℕ) → length us ≡ length xs - i → length vs ≡ length ys - i → same_at (at + i) us vs ≡ holds (nat_eq (length xs) (length ys)) (at + i)
    ended [] [] p q = let same : nat_eq (length xs) (length ys) ≡ true = eq-eqb _ _ (omega (arith, p, q, e)) in sym (ap (λ (b : Bool). holds b (at + i)) same)
    ended [] (b ∷ vs) p q = let other : nat_eq (length xs) (length ys) ≡ false = ne_eqb _ _ (λ (h : length xs ≡ length ys). omega (arith, p, q, e, h)) in sym (ap (λ (b : Bool). holds b (at + i)) other)
    ended (a ∷ us) [] p q = let other : nat_eq (length xs) (length ys) ≡ false = ne_eqb _ _ (λ (h : length xs ≡ length ys). omega (arith, p, q, e, h)) in sym (ap (λ (b : Bool). holds b (at + i)) other)
    ended (a ∷ us) (b ∷ vs) p q = absurd (omega (arith, p, q, e))
