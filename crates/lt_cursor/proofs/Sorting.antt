-- Records in the order of reading.
use Rattle.std.proofs.Common.{◌≡◌, ◌≢◌, ◌⊎◌, ℕ, zero, suc, ◌<◌, Bool, true, false, cond, List, [], ◌∷◌, length, get_or, refl, sym, ap, subst, ◌∙◌, inl, inr, arith}
use Rattle.std.specs.List.{All, AllPairs, AllByRecursion, Contains}
use Rattle.std.specs.List.Sorted.{IsPermutation}
use Rattle.std.specs.Cmp.Lexicographic.{pointwise, nat_list_eq_equiv}
use Rattle.std.specs.Prelude.{nat_eq}
use Rattle.std.proofs.lemmas.Bool.{cases_Bool}
use Rattle.std.proofs.lemmas.Map.Keys.{IsDistinct-IsPermutation, IsDistinct-from_apart, apart_from_distinct}
use Rattle.std.proofs.lemmas.List.Elements.{recursion_from_All, All-from_recursion}
use Rattle.std.proofs.lemmas.List.Kept.{AllPairs-cons}
use Rattle.std.proofs.lemmas.List.Sorted.{IsPermutation-refl, IsPermutation-cons, IsPermutation-sym, IsPermutation-trans, IsPermutation-middle, Contains-permutation}
use Rattle.lt_rec.specs.Record.{Record}
use Rattle.lt_kway.specs.Heads.{is_before}
use Rattle.lt_layout.proofs.Asked.{same_bytes, bytes_same}
use Rattle.lt_cursor.proofs.Keys.{clash, before_trans, before_differs, before_or_after}
use Rattle.lt_cursor.specs.Order.{IsInOrder, HaveDistinctKeys, placed, arranged}

-- ---- pairs, by recursion

abbrev pub Pairs : {X : Type 0} → (X → X → Type 0) → List X → Type 0
Pairs R [] = Unit {0}
Pairs R (x ∷ xs) = AllByRecursion (R x) xs × Pairs R xs

module _ {X : Type 0} (R : X → X → Type 0) where
  pub pairs_head : (x : X) (xs : List X) → AllPairs R (x ∷ xs) → All (R x) xs
  pairs_head x xs h k d w = h 0 (suc k) d (omega arith) (omega (arith, w))

  pub pairs_tail : (x : X) (xs : List X) → AllPairs R (x ∷ xs) → AllPairs R xs
  pairs_tail x xs h i j d lt w = h (suc i) (suc j) d (omega (arith, lt)) (omega (arith, w))

  pub to_pairs : (xs : List X) → AllPairs R xs → Pairs R xs
  to_pairs [] h = tt
  to_pairs (x ∷ xs) h = (recursion_from_All (R x) xs (pairs_head x xs h), to_pairs xs (pairs_tail x xs h))

  pub from_pairs : (xs : List X) → Pairs R xs → AllPairs R xs
  from_pairs [] h = λ i j d lt w. absurd (omega (arith, w))
  from_pairs (x ∷ xs) h = AllPairs-cons R x xs (All-from_recursion (R x) xs h.0) (from_pairs xs h.1)

pub each_implies : {X : Type 0} (P Q : X → Type 0) → ((x : X) → P x → Q x) → (xs : List X) → AllByRecursion P xs → AllByRecursion Q xs
each_implies P Q f [] h = tt
each_implies P Q f (x ∷ xs) h = (f x h.0, each_implies P Q f xs h.1)

pairs_imply : {X : Type 0} (R S : X → X → Type 0) → ((x y : X) → R x y → S x y) → (xs : List X) → Pairs R xs → Pairs S xs
pairs_imply R S f [] h = tt
pairs_imply R S f (x ∷ xs) h = (each_implies (R x) (S x) (f x) xs h.0, pairs_imply R S f xs h.1)

-- ---- keys

abbrev Before : Bool → Record → Record → Type 0
Before down r s = is_before down r.key s.key ≡ true

abbrev Differ : Record → Record → Type 0
Differ r s = r.key ≢ s.key

abbrev same_key : Record → Record → Bool
same_key r s = pointwise nat_eq r.key s.key

apart : (x y : Record) → x.key ≢ y.key → same_key x y ≡ false
apart x y n = elim (cases_Bool (same_key x y)) [
  | inl t ↦ absurd (n (same_bytes x.key y.key t))
  | inr f ↦ f
]

not_apart : (x y : Record) → same_key x y ≡ false → x.key ≢ y.key
not_apart x y f e = clash (same_key x y) (ap (λ k. pointwise nat_eq x.key k) (sym e) ∙ bytes_same x.key) f

-- the same records in another order
pub distinct_moved : (xs ys : List Record) → IsPermutation xs ys → HaveDistinctKeys xs → HaveDistinctKeys ys
distinct_moved xs ys p h =
    let there = IsDistinct-from_apart same_key xs (λ i j d lt w. apart (get_or xs i d) (get_or xs j d) (h i j d lt w)) in
    let moved = IsDistinct-IsPermutation same_key (λ x y. nat_list_eq_equiv.symm x.key y.key) xs ys p there in
    λ i j d lt w. not_apart (get_or ys i d) (get_or ys j d) (apart_from_distinct same_key ys i j d moved lt w)

pub ordered_distinct : (down : Bool) (xs : List Record) → IsInOrder down xs → HaveDistinctKeys xs
ordered_distinct down xs h = from_pairs Differ xs (pairs_imply (Before down) Differ (λ x y b. before_differs down x.key y.key b) xs (to_pairs (Before down) xs h))

-- ---- placed among others

pub placed_moves : (down : Bool) (r : Record) (xs : List Record) → IsPermutation (r ∷ xs) (placed down r xs)
placed_moves down r [] = IsPermutation-refl (r ∷ [])
placed_moves down r (s ∷ xs) = by (is_before down r.key s.key) (placed_moves down r xs)
  where
    by : (b : Bool) → IsPermutation (r ∷ xs) (placed down r xs) → IsPermutation (r ∷ (s ∷ xs)) (cond b (r ∷ (s ∷ xs)) (s ∷ placed down r xs))
    by true p = IsPermutation-refl (r ∷ (s ∷ xs))
    by false p = IsPermutation-trans _ _ _ (IsPermutation-sym _ _ (IsPermutation-middle (s ∷ []) r xs)) (IsPermutation-cons s (r ∷ xs) (placed down r xs) p)

all_placed : (P : Record → Type 0) (down : Bool) (r : Record) (xs : List Record) → P r → AllByRecursion P xs → AllByRecursion P (placed down r xs)
all_placed P down r [] h all = (h, tt)
all_placed P down r (s ∷ xs) h all = by (is_before down r.key s.key) (all_placed P down r xs h all.1)
  where
    by : (b : Bool) → AllByRecursion P (placed down r xs) → AllByRecursion P (cond b (r ∷ (s ∷ xs)) (s ∷ placed down r xs))
    by true rest = (h, all)
    by false rest = (all.0, rest)

placed_ordered : (down : Bool) (r : Record) (xs : List Record) → AllByRecursion (Differ r) xs → Pairs (Before down) xs → Pairs (Before down) (placed down r xs)
placed_ordered down r [] n h = (tt, tt)
placed_ordered down r (s ∷ xs) n h = by (is_before down r.key s.key) refl (placed_ordered down r xs n.1 h.1)
  where
    by : (b : Bool) → is_before down r.key s.key ≡ b → Pairs (Before down) (placed down r xs) → Pairs (Before down) (cond b (r ∷ (s ∷ xs)) (s ∷ placed down r xs))
    by true e rest = ((e, each_implies (Before down s) (Before down r) (λ y k. before_trans down r.key s.key y.key e k) xs h.0), h)
    by false e rest = (all_placed (Before down s) down r xs (before_or_after down r.key s.key e n.0) h.0, rest)

placed_first : (down : Bool) (r : Record) (xs : List Record) → AllByRecursion (Before down r) xs → placed down r xs ≡ r ∷ xs
placed_first down r [] h = refl
placed_first down r (s ∷ xs) h = rw h.0 refl

-- ---- arranged

pub arranged_moves : (down : Bool) (xs : List Record) → IsPermutation xs (arranged down xs)
unfolding arranged
arranged_moves down [] = IsPermutation-refl []
arranged_moves down (r ∷ xs) = IsPermutation-trans _ _ _ (IsPermutation-cons r xs (arranged down xs) (arranged_moves down xs)) (placed_moves down r (arranged down xs))

all_arranged : (P : Record → Type 0) (down : Bool) (xs : List Record) → AllByRecursion P xs → AllByRecursion P (arranged down xs)
unfolding arranged
all_arranged P down [] all = tt
all_arranged P down (r ∷ xs) all = all_placed P down r (arranged down xs) all.0 (all_arranged P down xs all.1)

ordered_by_recursion : (down : Bool) (xs : List Record) → Pairs Differ xs → Pairs (Before down) (arranged down xs)
unfolding arranged
ordered_by_recursion down [] n = tt
ordered_by_recursion down (r ∷ xs) n = placed_ordered down r (arranged down xs) (all_arranged (Differ r) down xs n.0) (ordered_by_recursion down xs n.1)

pub arranged_ordered : (down : Bool) (xs : List Record) → HaveDistinctKeys xs → IsInOrder down (arranged down xs)
arranged_ordered down xs n = from_pairs (Before down) (arranged down xs) (ordered_by_recursion down xs (to_pairs Differ xs n))

pub arranged_none : (down : Bool) → arranged down [] ≡ []
unfolding arranged
arranged_none down = refl

-- what is read before all others comes first
pub arranged_first : (down : Bool) (r : Record) (xs : List Record) → All (λ s. is_before down r.key s.key ≡ true) xs → arranged down (r ∷ xs) ≡ r ∷ arranged down xs
unfolding arranged
arranged_first down r xs h = placed_first down r (arranged down xs) (all_arranged (Before down r) down xs (recursion_from_All (Before down r) xs h))

-- ---- one order of the same records

abbrev Has : Record → List Record → Type 0
Has r [] = ⊥
Has r (x ∷ xs) = (x ≡ r) ⊎ Has r xs

to_has : (r : Record) (xs : List Record) (k : ℕ) → k < length xs → get_or xs k r ≡ r → Has r xs
to_has r [] k w e = absurd (omega (arith, w))
to_has r (x ∷ xs) zero w e = inl e
to_has r (x ∷ xs) (suc k) w e = inr (to_has r xs k (omega (arith, w)) e)

from_has : (r : Record) (xs : List Record) → Has r xs → Contains xs r
from_has r [] h = absurd h
from_has r (x ∷ xs) (inl e) = (0, omega arith, e)
from_has r (x ∷ xs) (inr h) = let c = from_has r xs h in (suc c.0, omega (arith, c.1), c.2)

each_has : (P : Record → Type 0) (r : Record) (xs : List Record) → AllByRecursion P xs → Has r xs → P r
each_has P r [] all h = absurd h
each_has P r (x ∷ xs) all (inl e) = subst P e all.0
each_has P r (x ∷ xs) all (inr h) = each_has P r xs all.1 h

never_before_itself : (down : Bool) (a : List ℕ) → is_before down a a ≡ true → ⊥
never_before_itself down a h = before_differs down a a h refl

-- of two first records that stand in each other's list, and the records behind them
one_first : (down : Bool) (x y : Record) (xs ys : List Record) → AllByRecursion (Before down x) xs → AllByRecursion (Before down y) ys → Has x (y ∷ ys) → Has y (x ∷ xs) → x ≡ y
one_first down x y xs ys h k (inl e) b = sym e
one_first down x y xs ys h k (inr a) (inl e) = e
one_first down x y xs ys h k (inr a) (inr b) = absurd (never_before_itself down x.key (before_trans down x.key y.key x.key (each_has (Before down x) y xs h b) (each_has (Before down y) x ys k a)))

behind : (down : Bool) (x y r : Record) (xs ys : List Record) → x ≡ y → AllByRecursion (Before down x) xs → Has r xs → Has r (y ∷ ys) → Has r ys
behind down x y r xs ys same h in_xs (inl e) = absurd (never_before_itself down x.key (subst (λ z. is_before down x.key z.key ≡ true) (sym (same ∙ e)) (each_has (Before down x) r xs h in_xs)))
behind down x y r xs ys same h in_xs (inr there) = there

same_order : (down : Bool) (xs ys : List Record) → Pairs (Before down) xs → Pairs (Before down) ys → ((r : Record) → Has r xs → Has r ys) → ((r : Record) → Has r ys → Has r xs) → xs ≡ ys
same_order down [] [] h k f g = refl
same_order down [] (y ∷ ys) h k f g = absurd (g y (inl refl))
same_order down (x ∷ xs) [] h k f g = absurd (f x (inl refl))
same_order down (x ∷ xs) (y ∷ ys) h k f g =
    let same : x ≡ y = one_first down x y xs ys h.0 k.0 (f x (inl refl)) (g y (inl refl)) in
    (λ i. same i ∷ same_order down xs ys h.1 k.1
    (λ r in_xs. behind down x y r xs ys same h.0 in_xs (f r (inr in_xs)))
    (λ r in_ys. behind down y x r ys xs (sym same) k.0 in_ys (g r (inr in_ys))) i)

pub arranged_same : (down : Bool) (xs ys : List Record) → HaveDistinctKeys xs → IsPermutation xs ys → arranged down xs ≡ arranged down ys
arranged_same down xs ys n p =
    let m = distinct_moved xs ys p n in
    let there : IsPermutation (arranged down xs) (arranged down ys) = IsPermutation-trans _ _ _ (IsPermutation-sym _ _ (arranged_moves down xs)) (IsPermutation-trans _ _ _ p (arranged_moves down ys)) in
    let back = IsPermutation-sym _ _ there in
    same_order down (arranged down xs) (arranged down ys) (ordered_by_recursion down xs (to_pairs Differ xs n)) (ordered_by_recursion down ys (to_pairs Differ ys m))
    (λ r h. let c = Contains-permutation (arranged down xs) (arranged down ys) r there (from_has r (arranged down xs) h) in to_has r (arranged down ys) c.0 c.1 c.2)
    (λ r h. let c = Contains-permutation (arranged down ys) (arranged down xs) r back (from_has r (arranged down ys) h) in to_has r (arranged down xs) c.0 c.1 c.2)
