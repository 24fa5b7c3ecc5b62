use Rattle.std.proofs.Common.{ℕ, ◌^◌, ◌<◌, List, subst, arith}
use Rattle.std.specs.Prelude.{IfNone}
use Rattle.lt_state.specs.State.{Filled}
use Rattle.lt_memory.specs.Tablets.{Tablets, NoneHasKey}
use Rattle.lt_memory.proofs.Marked.{have_this_time}
use Rattle.lt_memory.proofs.memory.Memory.get.Goals as goal

pub find-requires : goal.find-requires
find-requires c =
    let i = c.self.inside in
    let fits : c.args.ts < 2 ^ 64 = omega arith in
    record { timed = rw c.as_slice.ensures.value (have_this_time i.tablets.items i.next c.args.key.now c.args.ts c.self.invariant fits c.requires.timed) }

pub returns-clause-none : goal.returns-clause-none
returns-clause-none c =
    subst (λ (v : Tablets). IfNone c.find.result (NoneHasKey v.tablets c.args.key.now)) c.self.view_is
    (subst (λ (ts : List Filled). IfNone c.find.result (NoneHasKey ts c.args.key.now)) c.as_slice.ensures.value c.find.ensures.none)
