use Rattle.std.proofs.Common.{◌∙◌}
use Rattle.std.specs.Ordering.{nat_cmp}
use Rattle.lt_rec.specs.Bytes.{is_less}
use Rattle.lt_probe.proofs.Picking.{by_key_of}
use Rattle.lt_probe.proofs.block.is_after.Goals as goal

pub returns-in-Equal : goal.returns-in-Equal
returns-in-Equal c =
    by_key_of c.is_before.result c.args.best.now c.in-Some.best c.args.rec.now c.in-Some.is
    (c.in-Equal.ensures ∙ (λ i. nat_cmp (c.ts.ensures.value i) (c.ts-2.ensures.value i)))
    (c.is_before.ensures ∙ (λ i. is_less (c.key.ensures.value i) (c.key-in-Equal.ensures.value i)))
