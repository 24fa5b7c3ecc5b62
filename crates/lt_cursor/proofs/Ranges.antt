-- The blocks of an index range, and what a box has outside it.
use Rattle.std.proofs.Common.{◌≡◌, ◌⊎◌, ℕ, zero, suc, ◌+◌, ◌-◌, ◌<◌, ◌≤◌, Bool, true, false, cond, List, [], ◌∷◌, ◌++◌, length, take, drop, reverse, filter, Some, refl, sym, ap, subst, ◌∙◌, arith, inl, inr, append-nil}
use Rattle.std.specs.Prelude.{slice_get, count_by, IsTrue, ◌↔◌}
use Rattle.std.specs.List.{All, AllByRecursion}
use Rattle.std.proofs.lemmas.Bool.{cases_lt}
use Rattle.std.proofs.lemmas.List.{take-append-drop, drop-drop, reverse-append, length-reverse, get_or-reverse}
use Rattle.std.proofs.lemmas.List.Sums.{sum_by-cons}
use Rattle.std.proofs.lemmas.List.Elements.{filter-append, recursion_from_All, All-append}
use Rattle.lt_rec.specs.Record.{Record}
use Rattle.lt_rec.specs.Records.{joined}
use Rattle.lt_cursor.specs.Order.{in_order}
use Rattle.lt_cursor.proofs.Behind.{joined-append}

abbrev tally : Bool → ℕ
tally b = cond b 1 0

one_more : {X : Type 0} (q : X → Bool) (x : X) (xs : List X) (from to : ℕ) → from ≤ to → ((from ≤ 0) × (0 < to)) ↔ IsTrue (q x) → count_by q xs ≡ (to - 1) - (from - 1) → count_by q (x ∷ xs) ≡ to - from
one_more q x xs from to o first rest = sum_by-cons (λ x. cond (q x) 1 0) x xs ∙ by (q x) refl
  where
    by : (b : Bool) → q x ≡ b → cond (q x) 1 0 + count_by q xs ≡ to - from
    by true e =
        let here = first.1 (rw e refl) in
        let one = ap tally e in
        omega (arith, rest, here.0, here.1, one)
    by false e =
        let none = ap tally e in
        let not_here : (from ≤ 0) × (0 < to) → ⊥ = λ k. let t = first.0 k in (let f : IsTrue false = rw (← e) t in absurd cc) in
        elim (cases_lt 0 from) [
          | inl some ↦ omega (arith, rest, some, o, none)
          | inr low ↦ elim (cases_lt 0 to) [
            | inl over ↦ absurd (not_here (low, over))
            | inr nothing ↦ omega (arith, rest, nothing, none)
          ]
        ]

-- a test that passes exactly from one place up to another passes so many
pub count_between : {X : Type 0} (q : X → Bool) (xs : List X) (from to : ℕ) → from ≤ to → to ≤ length xs → ((i : ℕ) (x : X) → slice_get xs i ≡ Some x → ((from ≤ i) × (i < to)) ↔ IsTrue (q x)) → count_by q xs ≡ to - from
count_between q [] from to o w h = omega (arith, o, w)
count_between q (x ∷ xs) from to o w h =
    one_more q x xs from to o (h 0 x refl) (count_between q xs (from - 1) (to - 1) (omega (arith, o)) (omega (arith, w)) (λ i y e.
    let next = h (suc i) y e in (
      λ k. next.0 (omega (arith, k.0), omega (arith, k.1)),
      λ t. let k = next.1 t in (omega (arith, k.0), omega (arith, k.1)),
    )))

-- ---- no block outside the range has a record of the box

none_kept : (p : Record → Bool) (xs : List Record) → AllByRecursion (λ x. p x ≡ false) xs → filter p xs ≡ []
none_kept p [] h = refl
none_kept p (x ∷ xs) h = rw h.0 (none_kept p xs h.1)

filter_none : (p : Record → Bool) (xs : List Record) → All (λ x. p x ≡ false) xs → filter p xs ≡ []
filter_none p xs h = none_kept p xs (recursion_from_All (λ x. p x ≡ false) xs h)

all_turned : (P : Record → Type 0) (xs : List Record) → All P xs → All P (reverse xs)
all_turned P xs all k d w =
    let n = length-reverse xs in
    subst P (sym (get_or-reverse xs k d (omega arith))) (all (length xs - 1 - k) d (omega arith))

-- of three parts, the first and the last of which have nothing that is kept
kept_middle : (p : Record → Bool) (down : Bool) (a m c : List Record) → All (λ x. p x ≡ false) a → All (λ x. p x ≡ false) c → filter p (in_order down (a ++ (m ++ c))) ≡ filter p (in_order down m)
kept_middle p false a m c ha hc =
    let rest : filter p (m ++ c) ≡ filter p m = filter-append p m c ∙ ap (λ ys. filter p m ++ ys) (filter_none p c hc) ∙ append-nil (filter p m) in
    filter-append p a (m ++ c) ∙ (λ i. filter_none p a ha i ++ rest i)
kept_middle p true a m c ha hc =
    let none_a : filter p (reverse a) ≡ [] = filter_none p (reverse a) (all_turned (λ x. p x ≡ false) a ha) in
    let none_c : filter p (reverse c) ≡ [] = filter_none p (reverse c) (all_turned (λ x. p x ≡ false) c hc) in
    let rest : filter p (reverse (m ++ c)) ≡ filter p (reverse m) =
    ap (filter p) (reverse-append m c) ∙ filter-append p (reverse c) (reverse m) ∙ ap (λ ys. ys ++ filter p (reverse m)) none_c in
    ap (filter p) (reverse-append a (m ++ c)) ∙ filter-append p (reverse (m ++ c)) (reverse a) ∙ (λ i. rest i ++ none_a i) ∙ append-nil (filter p (reverse m))

front_all : (P : Record → Type 0) (blocks : List (List Record)) (from : ℕ) → ((i : ℕ) (recs : List Record) → slice_get blocks i ≡ Some recs → i < from → All P recs) → All P (joined (take from blocks))
front_all P blocks zero h = λ k d w. absurd (omega (arith, w))
front_all P [] (suc n) h = λ k d w. absurd (omega (arith, w))
front_all P (b ∷ blocks) (suc n) h = All-append P b (joined (take n blocks)) (h 0 b refl (omega arith)) (front_all P blocks n (λ i recs e lt. h (suc i) recs e (omega (arith, lt))))

back_all : (P : Record → Type 0) (blocks : List (List Record)) (to : ℕ) → ((i : ℕ) (recs : List Record) → slice_get blocks i ≡ Some recs → to ≤ i → All P recs) → All P (joined (drop to blocks))
back_all P [] zero h = λ k d w. absurd (omega (arith, w))
back_all P (b ∷ blocks) zero h = All-append P b (joined blocks) (h 0 b refl (omega arith)) (back_all P blocks zero (λ i recs e le. h (suc i) recs e (omega arith)))
back_all P [] (suc n) h = λ k d w. absurd (omega (arith, w))
back_all P (b ∷ blocks) (suc n) h = back_all P blocks n (λ i recs e le. h (suc i) recs e (omega (arith, le)))

-- a list of blocks cut at two places
parts : (blocks : List (List Record)) (from to : ℕ) → from ≤ to → joined blocks ≡ joined (take from blocks) ++ (joined (take (to - from) (drop from blocks)) ++ joined (drop to blocks))
parts blocks from to h =
    let e : from + (to - from) ≡ to = omega arith in
    ap joined (sym (take-append-drop from blocks)) ∙ joined-append (take from blocks) (drop from blocks)
    ∙ ap (λ xs. joined (take from blocks) ++ xs)
    (ap joined (sym (take-append-drop (to - from) (drop from blocks)) ∙ ap (λ ys. take (to - from) (drop from blocks) ++ ys) (drop-drop (to - from) from blocks ∙ ap (λ k. drop k blocks) e))
    ∙ joined-append (take (to - from) (drop from blocks)) (drop to blocks))

pub kept_between : (p : Record → Bool) (down : Bool) (blocks : List (List Record)) (from to : ℕ) → from ≤ to → ((i : ℕ) (recs : List Record) → slice_get blocks i ≡ Some recs → ((i < from) ⊎ (to ≤ i)) → All (λ r. p r ≡ false) recs)
    → filter p (in_order down (joined (take (to - from) (drop from blocks)))) ≡ filter p (in_order down (joined blocks))
kept_between p down blocks from to o out =
    sym (ap (λ xs. filter p (in_order down xs)) (parts blocks from to o)
    ∙ kept_middle p down (joined (take from blocks)) (joined (take (to - from) (drop from blocks))) (joined (drop to blocks))
    (front_all (λ r. p r ≡ false) blocks from (λ i recs e lt. out i recs e (inl lt)))
    (back_all (λ r. p r ≡ false) blocks to (λ i recs e le. out i recs e (inr le))))
