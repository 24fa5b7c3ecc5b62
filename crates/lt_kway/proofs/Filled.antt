-- Heads that are put into slots and taken from them.
use Rattle.std.proofs.Common.{◌≡◌, ◌≢◌, ℕ, zero, suc, ◌+◌, ◌-◌, ◌<◌, ◌≤◌, List, [], ◌∷◌, ◌++◌, length, map, take, drop, set, get_or, insert, Option, Some, None, refl, sym, ap, subst, ◌∙◌, arith, length-append}
use Rattle.std.specs.Prelude.{IsSome, nat_eq}
use Rattle.std.specs.List.{All, AllPairs, AllByRecursion}
use Rattle.std.specs.List.Sorted.{IsPermutation}
use Rattle.std.proofs.lemmas.Bool.Decides.{Decides-eqb}
use Rattle.std.proofs.lemmas.Cmp.{nat_eq_equiv}
use Rattle.std.proofs.lemmas.List.{map-append, length-map, take_more, take-append-le, drop-append-le, drop_at, get_or_default, get_or-take, get_or-set_same, get_or-set_other, length-set, length-take-le, take_at, drop_more, take-append-drop}
use Rattle.std.proofs.lemmas.List.Edits.{length-insert}
use Rattle.std.proofs.lemmas.List.Elements.{recursion_from_All, All-cons}
use Rattle.std.proofs.lemmas.List.Sorted.{IsPermutation-refl, IsPermutation-append, IsPermutation-insert, IsPermutation-middle, IsPermutation-trans, All-permutation}
use Rattle.std.proofs.lemmas.Map.Keys.{IsDistinct-IsPermutation}
use Rattle.std.proofs.lemmas.Map.Made.{AllPairs-from_IsDistinct, IsDistinct-from_AllPairs}
use Rattle.lt_kway.specs.Slots.{head_in, heads_of, AreHeld, AreSlots}
use Rattle.lt_kway.specs.declared.head.Head.{Head}

abbrev slot_head : List (Option Head) → ℕ → Head
slot_head slots slot = head_in (get_or slots slot None)

abbrev Differ : ℕ → ℕ → Type 0
Differ early late = early ≢ late

distinct_moved : (xs ys : List ℕ) → IsPermutation xs ys → AllPairs Differ xs → AllPairs Differ ys
distinct_moved xs ys moved distinct =
    AllPairs-from_IsDistinct Decides-eqb ys (IsDistinct-IsPermutation nat_eq flips xs ys moved (IsDistinct-from_AllPairs Decides-eqb xs distinct))
  where
    flips : (x y : ℕ) → nat_eq x y ≡ nat_eq y x
    flips x y = nat_eq_equiv.symm x y

-- the slots in front are others than the one behind them
front_differs : (order : List ℕ) (count : ℕ) → AllPairs Differ order → count < length order → All (λ slot. slot ≢ get_or order count 0) (take count order)
front_differs order count distinct held k d w =
    let long = length-take-le count order (omega arith) in
    let lt : k < count = omega arith in
    subst (λ slot. slot ≢ get_or order count 0) (sym (get_or-take count order k d lt)) (λ e. distinct k count d lt held (e ∙ get_or_default order count 0 d held))

-- the last slot, moved up to a place
pub moved_up : (front : List ℕ) (new at : ℕ) (old : List ℕ) → at ≤ length front → old ≡ drop at (front ++ new ∷ []) → take at (front ++ new ∷ []) ++ (drop (length old - 1) old ++ take (length old - 1) old) ≡ insert front at new
moved_up front new at old within e =
    let behind = drop at front in
    let parts : old ≡ behind ++ new ∷ [] = e ∙ drop-append-le at front (new ∷ []) within in
    let long = ap length parts in
    let more = length-append behind (new ∷ []) in
    let size : length old - 1 ≡ length behind = omega arith in
    let last : drop (length old - 1) old ≡ new ∷ [] = ap (λ n. drop n old) size ∙ ap (drop (length behind)) parts ∙ drop_at behind (new ∷ []) (length behind) refl in
    let firsts : take (length old - 1) old ≡ behind = ap (λ n. take n old) size ∙ ap (take (length behind)) parts ∙ take_at behind (new ∷ []) (length behind) refl in
    let ahead : take at (front ++ new ∷ []) ≡ take at front = take-append-le at front (new ∷ []) within in
    λ i. ahead i ++ (last i ++ firsts i)

same_maps : (f g : ℕ → Head) (slots : List ℕ) → AllByRecursion (λ slot. g slot ≡ f slot) slots → map g slots ≡ map f slots
same_maps f g [] same = refl
same_maps f g (slot ∷ slots) same = λ i. same.0 i ∷ same_maps f g slots same.1 i

heads_put : (f g : ℕ → Head) (slots : List ℕ) (at new : ℕ) (head : Head) → AllByRecursion (λ slot. g slot ≡ f slot) slots → g new ≡ head → at ≤ length slots → map g (insert slots at new) ≡ insert (map f slots) at head
heads_put f g slots zero new head same here w = λ i. here i ∷ same_maps f g slots same i
heads_put f g [] (suc at) new head same here w = absurd (omega arith)
heads_put f g (slot ∷ slots) (suc at) new head same here w = λ i. same.0 i ∷ heads_put f g slots at new head same.1 here (omega arith) i

-- what a store into one slot leaves of others
module _ (slots : List (Option Head)) (slot : ℕ) (new : Option Head) (others : List ℕ) (differ : All (λ other. other ≢ slot) others) where
  others_same : AllByRecursion (λ other. slot_head (set slots slot new) other ≡ slot_head slots other) others
  others_same = recursion_from_All (λ other. slot_head (set slots slot new) other ≡ slot_head slots other) others (λ k d w. ap head_in (get_or-set_other slots slot (get_or others k d) new None (differ k d w)))

  others_held : AreHeld slots others → AreHeld (set slots slot new) others
  others_held held k d w = subst IsSome (sym (get_or-set_other slots slot (get_or others k d) new None (differ k d w))) (held k d w)

module _ (slots : List (Option Head)) (order : List ℕ) (count : ℕ) where
  abbrev front : List ℕ
  front = take count order

  module _ (at : ℕ) (head : Head) (kept : AreSlots slots order count) (free : count < length order) (ordered : at ≤ count) where
    abbrev slots_put : List (Option Head)
    slots_put = set slots (get_or order count 0) (Some head)

    abbrev order_put : List ℕ
    order_put = insert front at (get_or order count 0) ++ drop (count + 1) order

    differ : All (λ other. other ≢ get_or order count 0) front
    differ = front_differs order count kept.distinct free

    inserted : length (insert front at (get_or order count 0)) ≡ count + 1
    inserted =
        let long = length-take-le count order kept.within in
        let more = length-insert front at (get_or order count 0) (omega arith) in
        omega arith

    front_put : take (count + 1) order_put ≡ insert front at (get_or order count 0)
    front_put = take_at (insert front at (get_or order count 0)) (drop (count + 1) order) (count + 1) inserted

    pub put_heads : heads_of slots_put (take (count + 1) order_put) ≡ insert (heads_of slots front) at head
    put_heads =
        let long = length-take-le count order kept.within in
        ap (heads_of slots_put) front_put
        ∙ heads_put (slot_head slots) (slot_head slots_put) front at (get_or order count 0) head (others_same slots (get_or order count 0) (Some head) front differ)
        (ap head_in (get_or-set_same slots (get_or order count 0) (Some head) None (kept.each count 0 free))) (omega arith)

    moved : IsPermutation order order_put
    moved =
        let rest = drop (count + 1) order in
        let new = get_or order count 0 in
        let parts : order ≡ front ++ new ∷ rest = sym (take-append-drop count order) ∙ ap (λ xs. front ++ xs) (drop_more order count 0 free) in
        subst (λ xs. IsPermutation xs order_put) (sym parts)
        (IsPermutation-trans (front ++ new ∷ rest) (new ∷ (front ++ rest)) order_put (IsPermutation-middle front new rest)
        (IsPermutation-append (new ∷ front) (insert front at new) rest rest (IsPermutation-insert front at new) (IsPermutation-refl rest)))

    pub put_kept : AreSlots slots_put order_put (count + 1)
    put_kept =
        let new = get_or order count 0 in
        let all = length-append (insert front at new) (drop (count + 1) order) in
        let size = length-set slots new (Some head) in
        let here : IsSome (get_or slots_put new None) = subst IsSome (sym (get_or-set_same slots new (Some head) None (kept.each count 0 free))) refl in
        record {
          within = omega (arith, all, inserted);
          each = subst (λ n. All (λ s. s < n) order_put) (sym size) (All-permutation (λ s. s < length slots) order order_put moved kept.each);
          distinct = distinct_moved order order_put moved kept.distinct;
          held = subst (AreHeld slots_put) (sym front_put) (All-permutation (λ s. IsSome (get_or slots_put s None)) (new ∷ front) (insert front at new) (IsPermutation-insert front at new)
              (All-cons (λ s. IsSome (get_or slots_put s None)) new front here (others_held slots new (Some head) front differ kept.held)));
        }

    -- the same of a slot and an order that are these
    module _ (slot : ℕ) (next : List ℕ) (is : slot ≡ get_or order count 0) (moves : next ≡ insert front at slot ++ drop (count + 1) order) where
      pub put_heads_at : heads_of (set slots slot (Some head)) (take (count + 1) next) ≡ insert (heads_of slots front) at head
      put_heads_at =
          subst (λ (xs : List ℕ). heads_of (set slots slot (Some head)) (take (count + 1) xs) ≡ insert (heads_of slots front) at head) (sym moves)
          (subst (λ n. heads_of (set slots n (Some head)) (take (count + 1) (insert front at n ++ drop (count + 1) order)) ≡ insert (heads_of slots front) at head) (sym is) put_heads)

      pub put_kept_at : AreSlots (set slots slot (Some head)) next (count + 1)
      put_kept_at =
          subst (λ (xs : List ℕ). AreSlots (set slots slot (Some head)) xs (count + 1)) (sym moves)
          (subst (λ n. AreSlots (set slots n (Some head)) (insert front at n ++ drop (count + 1) order) (count + 1)) (sym is) put_kept)

  pub heads_long : AreSlots slots order count → length (heads_of slots front) ≡ count
  heads_long kept = length-map front (slot_head slots) ∙ length-take-le count order kept.within

  module _ (kept : AreSlots slots order (count + 1)) where
    held_in : count < length order
    held_in = omega (arith, kept.within)

    shorter : (k : ℕ) (d : ℕ) → k < count → get_or (take count order) k d ≡ get_or (take (count + 1) order) k d
    shorter k d lt =
        let less : k < count + 1 = omega arith in
        get_or-take count order k d lt ∙ sym (get_or-take (count + 1) order k d less)

    front_held : AreHeld slots front
    front_held k d w =
        let long = length-take-le count order (omega (arith, held_in)) in
        let more = length-take-le (count + 1) order kept.within in
        let lt : k < count = omega arith in
        subst (λ s. IsSome (get_or slots s None)) (sym (shorter k d lt)) (kept.held k d (omega arith))

    pub taken_kept : AreSlots (set slots (get_or order count 0) None) order count
    taken_kept =
        let size = length-set slots (get_or order count 0) None in
        record {
          within = omega (arith, held_in);
          each = subst (λ n. All (λ s. s < n) order) (sym size) kept.each;
          distinct = kept.distinct;
          held = others_held slots (get_or order count 0) None front (front_differs order count kept.distinct held_in) front_held;
        }

    pub taken_heads : (head : Head) → get_or slots (get_or order count 0) None ≡ Some head → heads_of slots (take (count + 1) order) ≡ heads_of (set slots (get_or order count 0) None) front ++ head ∷ []
    taken_heads head here =
        let parts : take (count + 1) order ≡ front ++ get_or order count 0 ∷ [] = take_more order count 0 held_in in
        ap (heads_of slots) parts ∙ map-append (slot_head slots) front (get_or order count 0 ∷ [])
        ∙ (λ i. same_maps (slot_head (set slots (get_or order count 0) None)) (slot_head slots) front back i ++ head_in (here i) ∷ [])
      where
        back : AllByRecursion (λ other. slot_head slots other ≡ slot_head (set slots (get_or order count 0) None) other) (take count order)
        back = recursion_from_All (λ other. slot_head slots other ≡ slot_head (set slots (get_or order count 0) None) other) (take count order)
            (λ k d w. sym (ap head_in (get_or-set_other slots (get_or order count 0) (get_or (take count order) k d) None None (front_differs order count kept.distinct held_in k d w))))
