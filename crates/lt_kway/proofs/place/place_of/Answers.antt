use Rattle.std.proofs.Common.{◌+◌, ◌-◌, ◌/◌, ◌<◌, length, sym, ap, ◌∙◌, arith}
use Rattle.lt_kway.specs.Heads.{is_before}
use Rattle.lt_kway.proofs.Ranked.{all_later, all_earlier}
use Rattle.lt_kway.proofs.place.place_of.Goals as goal

pub loop-low-preserved-in-Less : goal.loop-low-preserved-in-Less
loop-low-preserved-in-Less c =
    let i = c.loop-low.invariant in
    let mid = c.loop-low.low + (c.loop-low.high - c.loop-low.low) / 2 in
    let x = c.get-held.result.now in
    let held : mid < length c.args.heads.now = omega arith in
    record {
      ordered = omega arith;
      within = i.within;
      later = all_later c.args.down c.args.heads.now c.requires.ranked c.args.key.now mid x held (c.get-held.ensures x)
          (ap (λ a. is_before c.args.down c.args.key.now a) (sym c.key.ensures.value) ∙ c.in-Less.ensures);
      earlier = i.earlier;
    }

pub loop-low-preserved : goal.loop-low-preserved
loop-low-preserved c =
    let i = c.loop-low.invariant in
    let mid = c.loop-low.low + (c.loop-low.high - c.loop-low.low) / 2 in
    let x = c.get-held.result.now in
    let held : mid < length c.args.heads.now = omega arith in
    record {
      ordered = omega arith;
      within = omega arith;
      later = i.later;
      earlier = all_earlier c.args.down c.args.heads.now c.requires.ranked c.args.key.now mid x held (c.get-held.ensures x)
          (ap (λ a. is_before c.args.down a c.args.key.now) (sym c.key.ensures.value) ∙ c.in-Greater.ensures);
    }
