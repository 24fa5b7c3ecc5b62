use Rattle.std.proofs.Common.{◌≡◌, ◌<◌, length, get_or, set, ap, ◌∙◌, arith}
use Rattle.std.proofs.lemmas.List.{get_or_default}
use Rattle.std.proofs.lemmas.List.Edits.{map_over_more}
use Rattle.lt_state.specs.State.{Filled}
use Rattle.lt_memory.specs.Inserting.{filled_up}
use Rattle.lt_memory.proofs.take.fill_up.Goals as goal

pub loop-tablet-preserved : goal.loop-tablet-preserved
loop-tablet-preserved c =
    let l = c.loop-tablet in
    let old = get_or l.tablets l.tablet-index c.tablet-item.result in
    let within : l.tablet-index < length l.tablets = omega (arith, l.auto.tablets) in
    ap (λ (t : Filled). set l.tablets l.tablet-index t) c.fill_up.ensures
    ∙ map_over_more (filled_up c.args.period) c.args.tablets.now l.tablets l.tablet-index old c.loop-tablet-test.true l.invariant (get_or_default l.tablets l.tablet-index c.tablet-item.result old within)
