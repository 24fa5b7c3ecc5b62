use Rattle.std.proofs.Common.{◌+◌, ◌-◌, ◌/◌, ◌<◌, length, sym, ap, ◌∙◌, arith}
use Rattle.lt_rec.specs.Boxes.{is_below}
use Rattle.lt_mem.proofs.Cuts.{front_below, rest_not_below}
use Rattle.lt_mem.proofs.reach.below.Goals as goal

pub loop-low-preserved-then-below : goal.loop-low-preserved-then-below
loop-low-preserved-then-below c =
    let i = c.loop-low.invariant in
    let mid = c.loop-low.low + (c.loop-low.high - c.loop-low.low) / 2 in
    let held : mid < length c.args.recs.now = omega arith in
    record {
      ordered = omega arith;
      within = i.within;
      before = front_below c.args.cut.now c.args.recs.now c.requires.rising mid c.index-recs-mid.result held c.index-recs-mid.is
          (ap (is_below c.args.cut.now) (sym c.key.ensures.value) ∙ sym c.if-below.ensures.exact);
      after = i.after;
    }

pub loop-low-preserved : goal.loop-low-preserved
loop-low-preserved c =
    let i = c.loop-low.invariant in
    let mid = c.loop-low.low + (c.loop-low.high - c.loop-low.low) / 2 in
    let held : mid < length c.args.recs.now = omega arith in
    record {
      ordered = omega arith;
      within = omega arith;
      before = i.before;
      after = rest_not_below c.args.cut.now c.args.recs.now c.requires.rising mid c.index-recs-mid.result held c.index-recs-mid.is
          (ap (is_below c.args.cut.now) (sym c.key.ensures.value) ∙ sym c.if-below.ensures.exact);
    }
