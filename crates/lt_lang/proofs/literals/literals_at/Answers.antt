use Rattle.lt_lang.specs.Parsing.{literals_at}
use Rattle.lt_lang.proofs.LiteralLoop.{values-begin, values-more, values-end, literal_at-shorter}
use Rattle.lt_lang.proofs.literals.literals_at.Goals as goal

pub loop-values-init : goal.loop-values-init
loop-values-init c = rw c.in_ok-values.ensures.items (values-begin c.args.bytes.now)

pub loop-values-smaller : goal.loop-values-smaller
loop-values-smaller c =
    let e = rw c.in-Some.is at c.in_ok-value.ensures in
    literal_at-shorter c.loop-values.rest.now c.in-Some.value c.in-Some.after.now e

pub loop-values-preserved : goal.loop-values-preserved
loop-values-preserved c =
    let e = rw c.in-Some.is at c.in_ok-value.ensures in
    rw c.in_ok-push.ensures.items
    (values-more c.loop-values.values.items c.loop-values.rest.now c.in-Some.value c.in-Some.after.now (literals_at c.args.bytes.now) e c.loop-values.invariant)

pub returns : goal.returns
returns c =
    let e = rw c.in_default.is at c.in_ok-value.ensures in
    rw c.from_vec.ensures (values-end c.loop-values.values.items c.loop-values.rest.now (literals_at c.args.bytes.now) e c.loop-values.invariant)
