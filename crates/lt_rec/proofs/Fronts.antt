-- A key is compared with a cut by its front alone.
use Rattle.std.proofs.Common.{◌≡◌, ℕ, ◌<◌, ◌&&◌, Bool, true, false, List, [], ◌∷◌, length, take, nat_eq, min, refl, sym, ap, subst, ◌∙◌, arith, Ordering, Less, Equal, Greater}
use Rattle.std.specs.Ordering.{is_lt, nat_cmp, ordering_then, MatchOrdering}
use Rattle.std.specs.Cmp.{ranks}
use Rattle.std.specs.Cmp.Lexicographic.{slice_cmp}
use Rattle.std.proofs.lemmas.Bool.{eq-eqb, ne_eqb}
use Rattle.std.proofs.lemmas.List.{take_min}
use Rattle.lt_rec.specs.Bytes.{is_less, begins_with}

-- what the comparison of the front with the cut's bytes says of the key: whether it comes before them, and begins with them
abbrev pub Says : Ordering → Bool → Bool → Type 0
Says Less less begins = less ≡ true
Says Equal less begins = (less ≡ false) × (begins ≡ true)
Says Greater less begins = (less ≡ false) × (begins ≡ false)

joined : (k b : ℕ) (o front rest : Ordering) (begins : Bool) → MatchOrdering o (k < b) (k ≡ b) (b < k) → Says front (is_lt rest) begins → Says (ordering_then o front) (is_lt (ordering_then o rest)) (nat_eq b k && begins)
joined k b Less front rest begins h s = refl
joined k b Equal front rest begins h s = rw (eq-eqb b k (sym h)) s
joined k b Greater front rest begins h s = (refl, rw (ne_eqb b k (λ e. omega arith)) refl)

pub front_says : (key bytes : List ℕ) → Says (slice_cmp nat_cmp (take (length bytes) key) bytes) (is_less key bytes) (begins_with key bytes)
front_says [] [] = (refl, refl)
front_says [] (b ∷ bs) = refl
front_says (k ∷ ks) [] = (refl, refl)
front_says (k ∷ ks) (b ∷ bs) = joined k b (nat_cmp k b) _ (slice_cmp nat_cmp ks bs) (begins_with ks bs) (ranks k b) (front_says ks bs)

-- what a comparison of the key's first bytes, as many as the cut has, says
pub compared : (o : Ordering) (key front bytes given : List ℕ) (m : ℕ) → given ≡ bytes → m ≡ min (length key) (length given) → front ≡ take m key → o ≡ slice_cmp nat_cmp front given → Says o (is_less key bytes) (begins_with key bytes)
compared o key front bytes given m g n f e =
    let same : o ≡ slice_cmp nat_cmp (take (length bytes) key) bytes = e ∙ (λ i. slice_cmp nat_cmp (shorter i) (g i)) in
    subst (λ (p : Ordering). Says p (is_less key bytes) (begins_with key bytes)) (sym same) (front_says key bytes)
  where
    min_comm : (a b : ℕ) → min a b ≡ min b a
    min_comm a b = omega arith

    shorter : front ≡ take (length bytes) key
    shorter = f ∙ ap (λ j. take j key) (n ∙ ap (λ xs. min (length key) (length xs)) g) ∙ ap (λ j. take j key) (min_comm (length key) (length bytes)) ∙ take_min (length bytes) key
