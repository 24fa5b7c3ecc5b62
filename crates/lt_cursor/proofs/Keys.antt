-- The order of keys in the order of reading.
use Rattle.std.proofs.Common.{◌≡◌, ◌≢◌, ℕ, Bool, true, false, List, refl, sym, ap, ◌∙◌, Ordering, Less, Equal, Greater}
use Rattle.std.specs.Ordering.{is_lt, nat_cmp, ordering_reverse}
use Rattle.std.specs.Cmp.Lexicographic.{slice_cmp}
use Rattle.std.proofs.lemmas.Cmp.{nat_list_cmp_total, tied_itself}
use Rattle.std.proofs.lemmas.Map.Lookups.{exact_bytes}
use Rattle.lt_rec.specs.Bytes.{is_less}
use Rattle.lt_kway.specs.Heads.{is_before}

less_of : (o : Ordering) → is_lt o ≡ true → o ≡ Less
less_of Less e = refl
less_of Equal e = cc
less_of Greater e = cc

less_trans : (a b c : List ℕ) → is_less a b ≡ true → is_less b c ≡ true → is_less a c ≡ true
less_trans a b c h k = ap is_lt (nat_list_cmp_total.trans a b c (less_of _ h) (less_of _ k))

less_differs : (a b : List ℕ) → is_less a b ≡ true → a ≢ b
less_differs a b h e =
    let same : slice_cmp nat_cmp a b ≡ Equal = ap (λ x. slice_cmp nat_cmp x b) e ∙ tied_itself nat_list_cmp_total b in
    let less : slice_cmp nat_cmp a b ≡ Less = less_of _ h in
    cc

pub clash : {A : Type 0} (b : Bool) → b ≡ true → b ≡ false → A
clash true h k = absurd cc
clash false h k = absurd cc

less_or_above : (a b : List ℕ) → is_less a b ≡ false → a ≢ b → is_less b a ≡ true
less_or_above a b h n = by (slice_cmp nat_cmp a b) refl
  where
    by : (o : Ordering) → slice_cmp nat_cmp a b ≡ o → is_less b a ≡ true
    by Less e = clash (is_less a b) (ap is_lt e) h
    by Equal e = absurd (n (exact_bytes a b e))
    by Greater e = ap is_lt (nat_list_cmp_total.antisymm b a ∙ ap ordering_reverse e)

pub before_trans : (down : Bool) (a b c : List ℕ) → is_before down a b ≡ true → is_before down b c ≡ true → is_before down a c ≡ true
before_trans true a b c h k = less_trans c b a k h
before_trans false a b c h k = less_trans a b c h k

pub before_differs : (down : Bool) (a b : List ℕ) → is_before down a b ≡ true → a ≢ b
before_differs true a b h e = less_differs b a h (sym e)
before_differs false a b h e = less_differs a b h e

pub before_or_after : (down : Bool) (a b : List ℕ) → is_before down a b ≡ false → a ≢ b → is_before down b a ≡ true
before_or_after true a b h n = less_or_above b a h (λ e. n (sym e))
before_or_after false a b h n = less_or_above a b h n
