-- The order of byte strings around one of them.
use Rattle.std.proofs.Common.{◌≡◌, ℕ, ◌<◌, true, false, not, List, [], ◌∷◌, ◌++◌, refl, sym, ap, ◌∙◌, arith, inl, inr, Ordering, Less, Equal, Greater}
use Rattle.std.specs.Ordering.{is_lt, nat_cmp, ordering_then, ordering_reverse, MatchOrdering}
use Rattle.std.specs.Cmp.{ranks}
use Rattle.std.specs.Cmp.Lexicographic.{slice_cmp, nat_list_cmp_total}
use Rattle.std.proofs.lemmas.Bool.{cases_Bool}
use Rattle.std.proofs.lemmas.Cmp.{tied_itself, nat_cmp_total}
use Rattle.std.proofs.lemmas.Map.Lookups.{exact_bytes}
use Rattle.lt_rec.specs.Bytes.{is_less}

pub not_less_itself : (a : List ℕ) → is_less a a ≡ false
not_less_itself a = ap is_lt (tied_itself nat_list_cmp_total a)

less_of : (o : Ordering) → is_lt o ≡ true → o ≡ Less
less_of Less e = refl
less_of Equal e = cc
less_of Greater e = cc

pub less_trans : (a b c : List ℕ) → is_less a b ≡ true → is_less b c ≡ true → is_less a c ≡ true
less_trans a b c h k = ap is_lt (nat_list_cmp_total.trans a b c (less_of _ h) (less_of _ k))

-- of two keys neither of which is less, one is the other
pub same_key : (a b : List ℕ) → is_less a b ≡ false → is_less b a ≡ false → a ≡ b
same_key a b h k = by (slice_cmp nat_cmp a b) refl
  where
    by : (o : Ordering) → slice_cmp nat_cmp a b ≡ o → a ≡ b
    by Less e = let clash : true ≡ false = sym (ap is_lt e) ∙ h in absurd cc
    by Equal e = exact_bytes a b e
    by Greater e = let clash : true ≡ false = sym (ap is_lt (nat_list_cmp_total.antisymm b a ∙ ap ordering_reverse e)) ∙ k in absurd cc

pub less_not_back : (a b : List ℕ) → is_less a b ≡ true → is_less b a ≡ false
less_not_back a b h = elim (cases_Bool (is_less b a)) [
  | inl back ↦
      let clash : true ≡ false = sym (less_trans a b a h back) ∙ not_less_itself a in
      absurd cc
  | inr forth ↦ forth
]

-- what is above a key that isn't above another one is above that too
pub less_over : (a b c : List ℕ) → is_less b a ≡ false → is_less b c ≡ true → is_less a c ≡ true
less_over a b c h k = elim (cases_Bool (is_less a b)) [
  | inl less ↦ less_trans a b c less k
  | inr not_less ↦ ap (λ x. is_less x c) (same_key a b not_less h) ∙ k
]

-- none of three keys is less than the one before
pub not_less_trans : (a b c : List ℕ) → is_less b a ≡ false → is_less c b ≡ false → is_less c a ≡ false
not_less_trans a b c h k = elim (cases_Bool (is_less c a)) [
  | inl less ↦
      let clash : true ≡ false = sym (below_or a b c h less) ∙ k in
      absurd cc
  | inr over ↦ over
]
  where
    below_or : (x y z : List ℕ) → is_less y x ≡ false → is_less z x ≡ true → is_less z y ≡ true
    below_or x y z over less = elim (cases_Bool (is_less x y)) [
      | inl lower ↦ less_trans z x y less lower
      | inr not_lower ↦ ap (is_less z) (sym (same_key x y not_lower over)) ∙ less
    ]

by_first : (o rest back : Ordering) → is_lt rest ≡ not (is_lt back) → is_lt (ordering_then o rest) ≡ not (is_lt (ordering_then (ordering_reverse o) back))
by_first Less rest back h = refl
by_first Equal rest back h = h
by_first Greater rest back h = refl

not_less_nil : (xs : List ℕ) → is_lt (slice_cmp nat_cmp xs []) ≡ false
not_less_nil [] = refl
not_less_nil (x ∷ xs) = refl

not_less_zero : (x : ℕ) (o rest : Ordering) → MatchOrdering o (x < 0) (x ≡ 0) (0 < x) → is_lt rest ≡ false → is_lt (ordering_then o rest) ≡ false
not_less_zero x Less rest m h = absurd (omega arith)
not_less_zero x Equal rest m h = h
not_less_zero x Greater rest m h = refl

-- the least bytes above a key are the key and a zero
pub less_behind : (a key : List ℕ) → is_less a (key ++ 0 ∷ []) ≡ not (is_less key a)
less_behind [] [] = refl
less_behind [] (y ∷ ys) = refl
less_behind (x ∷ xs) [] = not_less_zero x (nat_cmp x 0) (slice_cmp nat_cmp xs []) (ranks x 0) (not_less_nil xs)
less_behind (x ∷ xs) (y ∷ ys) =
    by_first (nat_cmp x y) (slice_cmp nat_cmp xs (ys ++ 0 ∷ [])) (slice_cmp nat_cmp ys xs) (less_behind xs ys)
    ∙ ap (λ (o : Ordering). not (is_lt (ordering_then o (slice_cmp nat_cmp ys xs)))) (sym (nat_cmp_total.antisymm y x))
