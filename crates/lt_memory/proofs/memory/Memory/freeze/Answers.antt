use Rattle.std.proofs.Common.{List, sym, subst}
use Rattle.lt_state.specs.State.{Filled}
use Rattle.lt_memory.specs.Tablets.{AreHeld}
use Rattle.lt_memory.proofs.Marked.{frozen_held}
use Rattle.lt_memory.proofs.memory.Memory.freeze.Goals as goal

pub invariant_of-self : goal.invariant_of-self
invariant_of-self c =
    let i = c.self.inside in
    subst (λ (ts : List Filled). AreHeld ts i.next) (sym c.freeze_all.ensures) (frozen_held c.args.parts.now i.tablets.items i.next c.self.invariant)
