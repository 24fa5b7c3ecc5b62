use Rattle.std.proofs.Common.{◌++◌, ◌∷◌, [], sym, subst, arith}
use Rattle.lt_merge.specs.Flushing.{AreOutputs}
use Rattle.lt_merge.proofs.Outputs.{outputs_push}
use Rattle.lt_merge.proofs.flushing.write_parts.Goals as goal

pub loop-part-preserved : goal.loop-part-preserved
loop-part-preserved g c =
    let honest = g.V.Device.honest in
    record {
      outputs = subst (AreOutputs honest (c.loop-part.yielded ++ c.in-Some.part ∷ [])) (sym c.in_ok-push.ensures.items)
          (outputs_push honest c.loop-part.yielded c.loop-part.written.items c.in-Some.part c.in_ok-write_part.field-0 c.loop-part.invariant.outputs c.in_ok-write_part.ensures.written);
      later = omega (arith, c.loop-part.invariant.later, c.write_part.ensures.cause.later);
    }
