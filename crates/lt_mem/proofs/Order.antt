-- The order of keys.
use Rattle.std.proofs.Common.{◌≡◌, ◌≢◌, ℕ, true, false, inl, inr, List, refl, sym, ap, ◌∙◌, Ordering, Less, Equal, Greater}
use Rattle.std.specs.Ordering.{is_lt, nat_cmp, ordering_reverse, MatchOrdering}
use Rattle.std.specs.Cmp.Lexicographic.{slice_cmp}
use Rattle.std.proofs.lemmas.Cmp.{nat_list_cmp_total, tied_itself}
use Rattle.std.proofs.lemmas.Map.Lookups.{exact_bytes}
use Rattle.std.proofs.lemmas.Bool.{cases_Bool}
use Rattle.lt_rec.specs.Bytes.{is_less}

-- what a comparison says of two keys
pub compared : (x y : List ℕ) (o : Ordering) → o ≡ slice_cmp nat_cmp x y → MatchOrdering o (is_less x y ≡ true) (x ≡ y) (is_less y x ≡ true)
compared x y Less e = ap is_lt (sym e)
compared x y Equal e = exact_bytes x y (sym e)
compared x y Greater e = ap is_lt (nat_list_cmp_total.antisymm y x ∙ ap ordering_reverse (sym e))

less_of : (o : Ordering) → is_lt o ≡ true → o ≡ Less
less_of Less e = refl
less_of Equal e = cc
less_of Greater e = cc

pub less_trans : (a b c : List ℕ) → is_less a b ≡ true → is_less b c ≡ true → is_less a c ≡ true
less_trans a b c h k = ap is_lt (nat_list_cmp_total.trans a b c (less_of _ h) (less_of _ k))

pub less_differs : (a b : List ℕ) → is_less a b ≡ true → a ≢ b
less_differs a b h e =
    let same : slice_cmp nat_cmp a b ≡ Equal = ap (λ x. slice_cmp nat_cmp x b) e ∙ tied_itself nat_list_cmp_total b in
    let less : slice_cmp nat_cmp a b ≡ Less = less_of _ h in
    cc

pub less_not_back : (a b : List ℕ) → is_less a b ≡ true → is_less b a ≡ false
less_not_back a b h = elim (cases_Bool (is_less b a)) [
  | inl back ↦ absurd (less_differs a a (less_trans a b a h back) refl)
  | inr not ↦ not
]
