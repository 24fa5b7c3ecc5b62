-- A list that is written record by record.
use Rattle.std.proofs.Common.{◌≡◌, ℕ, zero, suc, ◌<◌, ◌⊎◌, inl, inr, true, List, [], ◌∷◌, length, drop, refl, sym, ap, subst, arith}
use Rattle.std.specs.Prelude.{Some, None, slice_get}
use Rattle.std.specs.List.{AllByRecursion}
use Rattle.std.proofs.lemmas.List.Elements.{recursion_from_All}
use Rattle.lt_rec.specs.Bytes.{is_less}
use Rattle.lt_rec.specs.Record.{Record}
use Rattle.lt_mem.specs.Rising.{IsRising}

pub first_of : (left : List Record) (r : Record) → Some r ≡ slice_get left 0 → left ≡ r ∷ drop 1 left
first_of [] r is = cc
first_of (x ∷ xs) r is = let same : x ≡ r = cc in ap (λ (y : Record). y ∷ xs) same

-- the keys behind the first one are above it
pub rising_head : (r : Record) (recs : List Record) → IsRising (r ∷ recs) → AllByRecursion (λ s. is_less r.key s.key ≡ true) recs
rising_head r recs rising = recursion_from_All (λ s. is_less r.key s.key ≡ true) recs (λ k d within. rising zero (suc k) d (omega arith) (omega arith))

pub rising_tail : (r : Record) (recs : List Record) → IsRising (r ∷ recs) → IsRising recs
rising_tail r recs rising i j d less within = rising (suc i) (suc j) d (omega arith) (omega arith)

-- a key of some bytes is above none
pub above_none : (key : List ℕ) → 0 < length key → is_less [] key ≡ true
above_none [] some = absurd (omega arith)
above_none (b ∷ bs) some = refl

-- the first of what is left is above the last key
pub first_above : (last : List ℕ) (r : Record) (recs : List Record) → 0 < length r.key → (last ≡ []) ⊎ AllByRecursion (λ s. is_less last s.key ≡ true) (r ∷ recs) → is_less last r.key ≡ true
first_above last r recs some (inl none) = subst (λ (key : List ℕ). is_less key r.key ≡ true) (sym none) (above_none r.key some)
first_above last r recs some (inr all) = all.0

pub none_left : (left : List Record) → None ≡ slice_get left 0 → left ≡ []
none_left [] is = refl
none_left (r ∷ recs) is = cc
