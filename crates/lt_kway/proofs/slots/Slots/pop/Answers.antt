use Rattle.std.proofs.Common.{◌≡◌, ℕ, ◌+◌, ◌<◌, ◌++◌, [], ◌∷◌, List, Option, Some, None, length, take, set, get_or, sym, subst, ap, ◌∙◌, arith}
use Rattle.std.proofs.lemmas.List.{get_or_default}
use Rattle.lt_kway.specs.Slots.{AreSlots, heads_of}
use Rattle.lt_kway.specs.declared.head.Head.{Head}
use Rattle.lt_kway.proofs.Filled.{taken_kept, taken_heads}
use Rattle.lt_kway.proofs.slots.Slots.pop.Goals as goal

-- the last head's slot is free then
module _ (slots : List (Option Head)) (order : List ℕ) (held count slot : ℕ) (left : Option Head) (kept : AreSlots slots order held) (one : held ≡ count + 1) (is : slot ≡ get_or order count slot) (free : left ≡ None) where
  kept_more : AreSlots slots order (count + 1)
  kept_more = subst (AreSlots slots order) one kept

  in_order : count < length order
  in_order = let w = kept.within in omega arith

  slot_is : slot ≡ get_or order count 0
  slot_is = is ∙ get_or_default order count slot 0 in_order

  kept_left : AreSlots (set slots slot left) order count
  kept_left =
      subst (λ (o : Option Head). AreSlots (set slots slot o) order count) (sym free)
      (subst (λ n. AreSlots (set slots n None) order count) (sym slot_is) (taken_kept slots order count kept_more))

  module _ (head : Head) (there : Option Head) (value : there ≡ get_or slots slot there) (same : there ≡ Some head) where
    within : slot < length slots
    within = subst (λ n. n < length slots) (sym slot_is) (kept.each count 0 in_order)

    here : get_or slots (get_or order count 0) None ≡ Some head
    here = subst (λ n. get_or slots n None ≡ Some head) slot_is (get_or_default slots slot None there within ∙ sym value ∙ same)

    heads_left : heads_of slots (take held order) ≡ heads_of (set slots slot left) (take count order) ++ head ∷ []
    heads_left =
        ap (λ n. heads_of slots (take n order)) one
        ∙ subst (λ (o : Option Head). heads_of slots (take (count + 1) order) ≡ heads_of (set slots slot o) (take count order) ++ head ∷ []) (sym free)
        (subst (λ n. heads_of slots (take (count + 1) order) ≡ heads_of (set slots n None) (take count order) ++ head ∷ []) (sym slot_is) (taken_heads slots order count kept_more head here))

pub invariant_of-self : goal.invariant_of-self
invariant_of-self c =
    let i = c.self.inside in
    let one : i.count ≡ c.in_ok-count.count + 1 = omega (arith, c.in_ok-count.ensures.0, c.in_ok-count.ensures.1) in
    kept_left i.slots.items i.order.items i.count c.in_ok-count.count c.index-slot.result.now c.take.new.self c.self.invariant one c.index-slot.ensures c.take.ensures.after

pub returns-clause-taken : goal.returns-clause-taken
returns-clause-taken c =
    let i = c.self.inside in
    let one : i.count ≡ c.in_ok-count.count + 1 = omega (arith, c.in_ok-count.ensures.0, c.in_ok-count.ensures.1) in
    sym c.self.view_is
    ∙ heads_left i.slots.items i.order.items i.count c.in_ok-count.count c.index-slot.result.now c.take.new.self c.self.invariant one c.index-slot.ensures c.take.ensures.after
    c.in-Some.head c.index_mut-head.result.now c.index_mut-head.ensures.value (sym c.take.ensures.value ∙ c.in-Some.is)
