use Rattle.std.proofs.Common.{◌≡◌, ◌+◌, ◌++◌, [], ◌∷◌, List, take, sym, subst}
use Rattle.lt_state.specs.State.{Filled}
use Rattle.lt_memory.specs.Sharing.{TopOf}
use Rattle.lt_memory.proofs.Lists.{take_one_more}
use Rattle.lt_memory.proofs.Spans.{top_none}
use Rattle.lt_memory.proofs.sharing.top_of.Goals as goal

pub loop-tablet-preserved : goal.loop-tablet-preserved
loop-tablet-preserved c =
    let l = c.loop-tablet in
    let ts = c.args.tablets.now in
    subst (λ (xs : List Filled). TopOf xs c.args.parts.now c.top_with-top.result) (sym (take_one_more ts l.tablet-index c.tablet-item.result c.loop-tablet-test.true c.tablet-item.is))
    (c.top_with-top.ensures (take l.tablet-index ts) l.invariant)
