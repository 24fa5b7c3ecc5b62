use Rattle.std.proofs.Common.{◌≡◌, ◌<◌, ◌≤◌, false, List, Result, Ok, Err, length, take, insert, sym, subst, ap, ◌∙◌, arith}
use Rattle.std.specs.Prelude.{OnOk, is_err}
use Rattle.lt_kway.specs.declared.head.Head.{Head}
use Rattle.lt_kway.specs.Slots.{heads_of}
use Rattle.lt_kway.proofs.Filled.{put_kept_at, put_heads_at, heads_long}
use Rattle.lt_kway.proofs.slots.Slots.insert.Goals as goal

-- what a call that did not fail ensures
done : {T E : Type 0} (r : Result T E) (P : Type 0) → is_err r ≡ false → OnOk r P → P
done (Ok t) P e p = p
done (Err x) P e p = absurd (cc)

pub invariant_of-self : goal.invariant_of-self
invariant_of-self c = c.make_room.ensures.kept

pub invariant_of-self-2 : goal.invariant_of-self-2
invariant_of-self-2 c =
    let i = c.self.inside in
    let slots = c.make_room.new.slots.items in
    let order = c.make_room.new.order.items in
    let free : i.count < length order = done c.make_room.result (i.count < length order) (sym c.is_err.ensures.value ∙ c.if-is_err.false) c.make_room.ensures.free in
    let fits : c.args.at ≤ length (heads_of i.slots.items (take i.count i.order.items)) = subst (λ (heads : List Head). c.args.at ≤ length heads) (sym c.self.view_is) c.requires in
    let long = heads_long i.slots.items i.order.items i.count c.self.invariant in
    put_kept_at slots order i.count c.args.at c.args.head c.make_room.ensures.kept free (omega arith) c.move_up-slot.result c.move_up-slot.new.order.items c.move_up-slot.ensures.slot c.move_up-slot.ensures.order

pub returns-clause-ok : goal.returns-clause-ok
returns-clause-ok c =
    let i = c.self.inside in
    let slots = c.make_room.new.slots.items in
    let order = c.make_room.new.order.items in
    let free : i.count < length order = done c.make_room.result (i.count < length order) (sym c.is_err.ensures.value ∙ c.if-is_err.false) c.make_room.ensures.free in
    let fits : c.args.at ≤ length (heads_of i.slots.items (take i.count i.order.items)) = subst (λ (heads : List Head). c.args.at ≤ length heads) (sym c.self.view_is) c.requires in
    let long = heads_long i.slots.items i.order.items i.count c.self.invariant in
    put_heads_at slots order i.count c.args.at c.args.head c.make_room.ensures.kept free (omega arith) c.move_up-slot.result c.move_up-slot.new.order.items c.move_up-slot.ensures.slot c.move_up-slot.ensures.order
    ∙ ap (λ (heads : List Head). insert heads c.args.at c.args.head) (c.make_room.ensures.same ∙ c.self.view_is)
