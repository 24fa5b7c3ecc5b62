use Rattle.std.proofs.Common.{◌≡◌, ◌∙◌, ap, subst, arith}
use Rattle.std.specs.Arc.{arc_value}
use Rattle.lt_rec.specs.declared.listed.Listed.{Listed}
use Rattle.lt_tablet.specs.Loaded.{Loaded, IsTold}
use Rattle.lt_core.proofs.Sought.{within_last}
use Rattle.lt_core.proofs.seeking.number_in.Goals as goal

pub returns-then-listed-clear-clause-none : goal.returns-then-listed-clear-clause-none
returns-then-listed-clear-clause-none g c = λ honest rec among is.
    let told : IsTold (arc_value c.args.tablet.now) = subst IsTold c.deref.ensures (c.count-count.ensures.honest honest) in
    let last : c.listed.result.now.last ≡ (arc_value c.args.tablet.now).listed.last = ap (λ (l : Listed). l.last) (c.listed.ensures ∙ ap (λ (t : Loaded). t.listed) c.deref-2.ensures) in
    omega (arith, within_last (arc_value c.args.tablet.now) rec told among, last, c.if-listed-clear.true)
