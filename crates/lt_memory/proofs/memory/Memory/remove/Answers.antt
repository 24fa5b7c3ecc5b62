use Rattle.std.proofs.Common.{List, sym, subst}
use Rattle.lt_state.specs.State.{Filled}
use Rattle.lt_state.specs.Flushes.{Leaves}
use Rattle.lt_memory.specs.Tablets.{Tablets, AreHeld}
use Rattle.lt_memory.proofs.Marked.{left_held, leaves}
use Rattle.lt_memory.proofs.memory.Memory.remove.Goals as goal

pub invariant_of-self : goal.invariant_of-self
invariant_of-self c =
    let i = c.self.inside in
    subst (λ (ts : List Filled). AreHeld ts i.next) (sym c.leave_out.ensures) (left_held c.args.parts.now i.tablets.items i.next c.self.invariant)

pub returns-clause-leaves : goal.returns-clause-leaves
returns-clause-leaves c =
    let i = c.self.inside in
    subst (λ (v : Tablets). Leaves v.tablets c.leave_out.new.tablets.items c.args.parts.now) c.self.view_is
    (subst (λ (ts : List Filled). Leaves i.tablets.items ts c.args.parts.now) (sym c.leave_out.ensures) (leaves c.args.parts.now i.tablets.items))

pub returns-clause-tablets : goal.returns-clause-tablets
returns-clause-tablets c =
    let i = c.self.inside in
    let held : AreHeld c.leave_out.new.tablets.items i.next = subst (λ (ts : List Filled). AreHeld ts i.next) (sym c.leave_out.ensures) (left_held c.args.parts.now i.tablets.items i.next c.self.invariant) in
    held.are
