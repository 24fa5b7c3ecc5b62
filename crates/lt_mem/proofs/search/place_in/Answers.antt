use Rattle.std.proofs.Common.{◌+◌, ◌-◌, ◌/◌, ◌<◌, [], length, get_or, arith}
use Rattle.std.proofs.lemmas.List.{get_or_default}
use Rattle.lt_rec.specs.Record.{Record}
use Rattle.lt_mem.proofs.Between.{all_before, all_after}
use Rattle.lt_mem.proofs.search.place_in.Goals as goal

nothing : Record
nothing = record { key = []; ts = 0; seq = 0; ver = 0; body = [] }

pub loop-low-preserved-in-Less : goal.loop-low-preserved-in-Less
loop-low-preserved-in-Less c =
    let i = c.loop-low.invariant in
    let mid = c.loop-low.low + (c.loop-low.high - c.loop-low.low) / 2 in
    let x = get_or c.args.recs.now mid nothing in
    let held : mid < length c.args.recs.now = omega arith in
    record {
      ordered = omega arith;
      within = i.within;
      before = all_before c.args.recs.now c.requires.rising c.args.key.now mid x held (get_or_default c.args.recs.now mid nothing x held) (c.in-Less.ensures nothing);
      after = i.after;
    }

pub loop-low-preserved : goal.loop-low-preserved
loop-low-preserved c =
    let i = c.loop-low.invariant in
    let mid = c.loop-low.low + (c.loop-low.high - c.loop-low.low) / 2 in
    let x = get_or c.args.recs.now mid nothing in
    let held : mid < length c.args.recs.now = omega arith in
    record {
      ordered = omega arith;
      within = omega arith;
      before = i.before;
      after = all_after c.args.recs.now c.requires.rising c.args.key.now mid x held (get_or_default c.args.recs.now mid nothing x held) (c.in-Greater.ensures nothing);
    }
