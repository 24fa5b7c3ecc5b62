use Rattle.std.proofs.Common.{◌≡◌, true, rules, arith}
use Rattle.std.specs.Prelude.{is_ok}
use Rattle.std.proofs.lemmas.Grind.{common_steps}
use Rattle.lt_core.proofs.Given.{pushed, numbers_more, lends_more}
use Rattle.lt_core.proofs.tickets.lend_all.Goals as goal

pub loop-i-preserved : goal.loop-i-preserved
loop-i-preserved g c =
    let ok : is_ok c.push.result ≡ true = search rules in
    record {
      len = grind (arith, common_steps, c.push.ensures.len);
      capacity = grind (arith, common_steps, c.push.ensures.capacity);
      numbers = numbers_more g.V.Device.lent_number c.loop-i.lents.items c.push.new.self.items c.lend.result c.args.first c.loop-i.i (pushed _ _ _ _ ok c.push.ensures.items) c.lend.ensures.number c.loop-i.invariant.numbers;
      lent = lends_more g.V.Device.honest c.args.first c.loop-i.i c.args.anchor.now c.loop-i.anchor c.lend.new.self c.loop-i.invariant.lent (record { was = c.stone-possible.ensures.anchored; directory = c.lend.ensures.lent; ceiling = c.lend.ensures.ceiling; lends = c.lend.ensures.lends; may = c.lend.ensures.may });
      ceiling = omega (arith, c.lend.ensures.ceiling);
    }
