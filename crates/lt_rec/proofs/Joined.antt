-- Pieces that are left to be read, one after the other.
use Rattle.std.proofs.Common.{◌≡◌, ℕ, zero, suc, ◌+◌, ◌-◌, ◌<◌, ◌≤◌, true, false, List, [], ◌∷◌, ◌++◌, length, min, take, drop, get_or, set, nat_eq, refl, sym, ap, ◌∙◌, inl, inr, arith, append_assoc, append-nil, zero-add, suc-add}
use Rattle.std.specs.List.{slice_get}
use Rattle.std.proofs.lemmas.List.{take-append-le, take-append-drop, take_min, length-append, length-take-le, drop_more, drop_all, take_more, take_more_set, take_all, take_at, length-set, drop-append-le}
use Rattle.std.proofs.lemmas.Bool.{cases_lt, eq-eqb, ne_eqb, eqb-true}
use Rattle.std.proofs.Math.Seq.{take-append-add}
use Rattle.lt_rec.specs.Record.{Record}
use Rattle.lt_rec.specs.Records.{joined, NoneIsEmpty, IsLeft}

joined-append : (ps qs : List (List Record)) → joined (ps ++ qs) ≡ joined ps ++ joined qs
joined-append [] qs = refl
joined-append (p ∷ ps) qs = ap (λ xs. p ++ xs) (joined-append ps qs) ∙ sym (append_assoc p (joined ps) (joined qs))

NoneIsEmpty-append : (ps qs : List (List Record)) → NoneIsEmpty ps → NoneIsEmpty qs → NoneIsEmpty (ps ++ qs)
NoneIsEmpty-append [] qs s t = t
NoneIsEmpty-append (p ∷ ps) qs s t = (s.0, NoneIsEmpty-append ps qs s.1 t)

NoneIsEmpty-front : (ps qs : List (List Record)) → NoneIsEmpty (ps ++ qs) → NoneIsEmpty ps
NoneIsEmpty-front [] qs s = tt
NoneIsEmpty-front (p ∷ ps) qs s = (s.0, NoneIsEmpty-front ps qs s.1)

NoneIsEmpty-end : (ps qs : List (List Record)) → NoneIsEmpty (ps ++ qs) → NoneIsEmpty qs
NoneIsEmpty-end [] qs s = s
NoneIsEmpty-end (p ∷ ps) qs s = NoneIsEmpty-end ps qs s.1

-- the first record is that of the first piece
first_of : (p rest : List Record) → 0 < length p → slice_get (p ++ rest) 0 ≡ slice_get p 0
first_of [] rest h = absurd (omega arith)
first_of (x ∷ xs) rest h = refl

pub first_joined : (ps : List (List Record)) (at : ℕ) (p : List Record) → at < length ps → p ≡ get_or ps at p → NoneIsEmpty (drop at ps) → slice_get (joined (drop at ps)) 0 ≡ slice_get p 0
first_joined ps at p h q s =
    let e : drop at ps ≡ p ∷ drop (at + 1) ps = drop_more ps at p h ∙ ap (λ x. x ∷ drop (at + 1) ps) (sym q) in
    rw e (first_of p (joined (drop (at + 1) ps)) (rw e at s).0)

pub empty_joined : (ps : List (List Record)) (at : ℕ) → IsLeft ps at → nat_eq (length (joined (drop at ps))) 0 ≡ nat_eq at (length ps)
empty_joined ps at left = elim (cases_lt at (length ps)) [
  | inl h ↦
      let e = drop_more ps at [] h in
      let some = (rw e at left.some).0 in
      let long = length-append (get_or ps at []) (joined (drop (at + 1) ps)) in
      rw e (ne_eqb (length (get_or ps at [] ++ joined (drop (at + 1) ps))) 0 (λ z. omega arith) ∙ sym (ne_eqb at (length ps) (λ z. omega arith)))
  | inr h ↦ let w = left.within in rw (drop_all at ps h) (sym (eq-eqb at (length ps) (omega arith)))
]

-- one more piece
pub left_more : (ps : List (List Record)) (at : ℕ) (p : List Record) → IsLeft ps at → 0 < length p → IsLeft (ps ++ p ∷ []) at
left_more ps at p left h = record {
  within = (let w = left.within in let long = length-append ps (p ∷ []) in omega arith);
  some = rw (drop-append-le at ps (p ∷ []) left.within) (NoneIsEmpty-append (drop at ps) (p ∷ []) left.some (h, tt));
}

pub joined_more : (ps : List (List Record)) (at : ℕ) (p : List Record) → at ≤ length ps → joined (drop at (ps ++ p ∷ [])) ≡ joined (drop at ps) ++ p
joined_more ps at p h = ap joined (drop-append-le at ps (p ∷ []) h) ∙ joined-append (drop at ps) (p ∷ []) ∙ ap (λ xs. joined (drop at ps) ++ xs) (append-nil p)

-- the last piece
with_last : (ps : List (List Record)) (k : ℕ) (p : List Record) → length ps ≡ k + 1 → p ≡ get_or ps k p → ps ≡ take k ps ++ p ∷ []
with_last ps k p h q = sym (take_all (k + 1) ps (omega arith)) ∙ take_more ps k p (omega arith) ∙ ap (λ x. take k ps ++ x ∷ []) (sym q)

pub some_of : (n : ℕ) → false ≡ nat_eq n 0 → 0 < n
some_of zero e = cc
some_of (suc n) e = omega arith

pub none_of : (p : List Record) → true ≡ nat_eq (length p) 0 → p ≡ []
none_of [] e = refl
none_of (x ∷ xs) e = let z = eqb-true (length (x ∷ xs)) 0 (sym e) in absurd (omega arith)

last_place : (xs p : List Record) → 0 < length p → length (xs ++ p) - 1 ≡ length xs + (length p - 1)
last_place xs p h = let long = length-append xs p in omega arith

-- the last record is that of the last piece
get_behind : (xs p : List Record) (k : ℕ) → slice_get (xs ++ p) (length xs + k) ≡ slice_get p k
get_behind [] p k = ap (slice_get p) (zero-add k)
get_behind (x ∷ xs) p k = ap (slice_get (x ∷ (xs ++ p))) (suc-add (length xs) k) ∙ get_behind xs p k

last_of : (xs p : List Record) → 0 < length p → slice_get (xs ++ p) (length (xs ++ p) - 1) ≡ slice_get p (length p - 1)
last_of xs p h = ap (slice_get (xs ++ p)) (last_place xs p h) ∙ get_behind xs p (length p - 1)

take_of : (xs p : List Record) → 0 < length p → take (length (xs ++ p) - 1) (xs ++ p) ≡ xs ++ take (length p - 1) p
take_of xs p h = ap (λ k. take k (xs ++ p)) (last_place xs p h) ∙ take-append-add xs p (length p - 1)

-- what is left ends with the last piece
left_last : (ps : List (List Record)) (at k : ℕ) (p : List Record) → at < length ps → length ps ≡ k + 1 → p ≡ get_or ps k p → joined (drop at ps) ≡ joined (drop at (take k ps)) ++ p
left_last ps at k p h n q =
    let long = length-take-le k ps (omega arith) in
    ap (λ qs. joined (drop at qs)) (with_last ps k p n q) ∙ joined_more (take k ps) at p (omega arith)

last_some : (ps : List (List Record)) (at k : ℕ) (p : List Record) → at < length ps → length ps ≡ k + 1 → p ≡ get_or ps k p → NoneIsEmpty (drop at ps) → 0 < length p
last_some ps at k p h n q s =
    let long = length-take-le k ps (omega arith) in
    let e = ap (drop at) (with_last ps k p n q) ∙ drop-append-le at (take k ps) (p ∷ []) (omega arith) in
    (NoneIsEmpty-end (drop at (take k ps)) (p ∷ []) (rw e at s)).0

pub last_joined : (ps : List (List Record)) (at k : ℕ) (p : List Record) → at < length ps → length ps ≡ k + 1 → p ≡ get_or ps k p → NoneIsEmpty (drop at ps) → slice_get (joined (drop at ps)) (length (joined (drop at ps)) - 1) ≡ slice_get p (length p - 1)
last_joined ps at k p h n q s = rw (left_last ps at k p h n q) (last_of (joined (drop at (take k ps))) p (last_some ps at k p h n q s))

-- without the last record, of a piece that has more, or alone in its piece
pub shorter_joined : (ps : List (List Record)) (at k : ℕ) (p q : List Record) → at < length ps → length ps ≡ k + 1 → p ≡ get_or ps k p → q ≡ take (length p - 1) p → NoneIsEmpty (drop at ps)
    → joined (drop at (take k ps ++ q ∷ [])) ≡ take (length (joined (drop at ps)) - 1) (joined (drop at ps))
shorter_joined ps at k p q h n e f s =
    let long = length-take-le k ps (omega arith) in
    joined_more (take k ps) at q (omega arith) ∙ ap (λ x. joined (drop at (take k ps)) ++ x) f
    ∙ sym (rw (left_last ps at k p h n e) (take_of (joined (drop at (take k ps))) p (last_some ps at k p h n e s)))

pub left_shorter : (ps : List (List Record)) (at k : ℕ) → at < length ps → length ps ≡ k + 1 → NoneIsEmpty (drop at ps) → IsLeft (take k ps) at
left_shorter ps at k h n s =
    let long = length-take-le k ps (omega arith) in
    let e = ap (drop at) (sym (take_all (k + 1) ps (omega arith)) ∙ take_more ps k [] (omega arith)) ∙ drop-append-le at (take k ps) (get_or ps k [] ∷ []) (omega arith) in
    record { within = omega arith; some = NoneIsEmpty-front (drop at (take k ps)) (get_or ps k [] ∷ []) (rw e at s) }

-- the last piece replaced, or left out
pub set_last : (ps : List (List Record)) (k : ℕ) (q : List Record) → length ps ≡ k + 1 → set ps k q ≡ take k ps ++ q ∷ []
set_last ps k q n = let long = length-set ps k q in sym (take_all (k + 1) (set ps k q) (omega arith)) ∙ take_more_set ps k q (omega arith)

pub take_set_last : (ps : List (List Record)) (k : ℕ) (q : List Record) → length ps ≡ k + 1 → take k (set ps k q) ≡ take k ps
take_set_last ps k q n = ap (take k) (set_last ps k q n) ∙ take_at (take k ps) (q ∷ []) k (length-take-le k ps (omega arith))

pub alone_joined : (ps : List (List Record)) (at k : ℕ) (p q : List Record) → at < length ps → length ps ≡ k + 1 → p ≡ get_or ps k p → q ≡ take (length p - 1) p → q ≡ [] → NoneIsEmpty (drop at ps)
    → joined (drop at (take k ps)) ≡ take (length (joined (drop at ps)) - 1) (joined (drop at ps))
alone_joined ps at k p q h n e f none s =
    let long = length-take-le k ps (omega arith) in
    sym (append-nil (joined (drop at (take k ps)))) ∙ sym (joined_more (take k ps) at [] (omega arith))
    ∙ ap (λ x. joined (drop at (take k ps ++ x ∷ []))) (sym none) ∙ shorter_joined ps at k p q h n e f s

taken : (given m : ℕ) → given ≡ m → given - 0 ≡ m
taken given m e = omega arith

-- the pieces of a loop so far, and one more
pub joined_step : (ps : List (List Record)) (i : ℕ) (p : List Record) → i < length ps → p ≡ get_or ps i p → joined (take (i + 1) ps) ≡ joined (take i ps) ++ p
joined_step ps i p h q =
    ap joined (take_more ps i p h ∙ ap (λ x. take i ps ++ x ∷ []) (sym q)) ∙ joined-append (take i ps) (p ∷ []) ∙ ap (λ xs. joined (take i ps) ++ xs) (append-nil p)

pub front_step : (n wanted given : ℕ) (xs p : List Record) → wanted ≡ n - length xs → 0 < wanted → given ≡ min wanted (length p) → take n xs ++ take (given - 0) (drop 0 p) ≡ take n (xs ++ p)
front_step n wanted given xs p w some g =
    (λ i. take_all n xs (omega arith) i ++ part i) ∙ sym (take-append-add xs p wanted) ∙ ap (λ k. take k (xs ++ p)) (omega arith)
  where
    part : take (given - 0) (drop 0 p) ≡ take wanted p
    part = ap (λ k. take k p) (taken given (min wanted (length p)) g) ∙ take_min wanted p

pub front_whole : (n : ℕ) (ps : List (List Record)) (i : ℕ) → n ≤ length (joined (take i ps)) → take n (joined (take i ps)) ≡ take n (joined ps)
front_whole n ps i h =
    sym (take-append-le n (joined (take i ps)) (joined (drop i ps)) h)
    ∙ ap (take n) (sym (joined-append (take i ps) (drop i ps)) ∙ ap joined (take-append-drop i ps))
