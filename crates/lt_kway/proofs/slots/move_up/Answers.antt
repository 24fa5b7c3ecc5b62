use Rattle.std.proofs.Common.{◌≡◌, ◌+◌, ◌≤◌, ◌++◌, ℕ, [], ◌∷◌, List, length, take, drop, get_or, insert, ap, sym, ◌∙◌, arith, length-append, length-drop}
use Rattle.std.proofs.lemmas.List.{length-take-le, take_more, take_at, get_or_default}
use Rattle.std.proofs.lemmas.List.Edits.{length-insert}
use Rattle.lt_kway.proofs.Filled.{moved_up}
use Rattle.lt_kway.proofs.slots.move_up.Goals as goal

pub returns-clause-order : goal.returns-clause-order
returns-clause-order c =
    let order = c.args.order.now.items in
    let count = c.args.count in
    let at = c.args.at in
    let held = c.requires.within in
    let front = take count order in
    let slot = c.index-slot.result.now in
    let behind = c.split_at_mut-behind.result.1.now in
    let rest = drop (count + 1) order in
    let new = (c.split_at_mut-behind.result.0.now ++ c.rotate_right.new.self) ++ c.split_at_mut-front.result.1.now in
    let long = length-take-le count order (omega arith) in
    let within : at ≤ length front = omega arith in
    let is : get_or order count 0 ≡ slot = get_or_default order count 0 slot held ∙ sym c.index-slot.ensures in
    let value = c.as_mut_slice.ensures.value in
    let whole : c.split_at_mut-front.result.0.now ≡ front ++ slot ∷ [] =
    c.split_at_mut-front.ensures.front ∙ ap (take (count + 1)) value ∙ take_more order count 0 held ∙ ap (λ (n : ℕ). front ++ n ∷ []) is in
    let ahead : c.split_at_mut-behind.result.0.now ≡ take at (front ++ slot ∷ []) = c.split_at_mut-behind.ensures.front ∙ ap (take at) whole in
    let after : behind ≡ drop at (front ++ slot ∷ []) = c.split_at_mut-behind.ensures.back ∙ ap (drop at) whole in
    let back : c.split_at_mut-front.result.1.now ≡ rest = c.split_at_mut-front.ensures.back ∙ ap (drop (count + 1)) value in
    let parts : new ≡ insert front at slot ++ rest =
    (λ i. (ahead i ++ c.rotate_right.ensures.after i) ++ back i) ∙ ap (λ (xs : List ℕ). xs ++ rest) (moved_up front slot at behind within after) in
    let more = length-insert front at slot within in
    let all = length-append (insert front at slot) rest in
    let left = length-drop (count + 1) order in
    let size : length new ≡ length order = ap length parts ∙ omega arith in
    take_at new (drop (length new) order) c.args.order.now.len (size ∙ sym (ap length value) ∙ c.as_mut_slice.ensures.len) ∙ parts
