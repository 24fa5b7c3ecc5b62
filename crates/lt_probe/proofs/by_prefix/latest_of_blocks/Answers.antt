use Rattle.std.proofs.Common.{◌≡◌, ◌-◌, List, [], length, take, drop, get_or, sym, ap, subst, ◌∙◌, arith}
use Rattle.std.specs.Prelude.{Some, slice_get}
use Rattle.std.proofs.lemmas.Option.{slice_get-get_or}
use Rattle.lt_rec.specs.Record.{Record}
use Rattle.lt_rec.specs.Records.{joined}
use Rattle.lt_tablet.specs.Loaded.{blocks_in}
use Rattle.lt_probe.specs.Latest.{IsLatest}
use Rattle.lt_probe.proofs.Later.{covers_itself, some_covered, latest_same, latest_chain}
use Rattle.lt_probe.proofs.Range.{block_more, length-entries_of}
use Rattle.lt_probe.proofs.by_prefix.latest_of_blocks.Goals as goal

pub loop-at-init : goal.loop-at-init
loop-at-init g c =
    let q = c.args.asked.now in
    let none : 0 ≡ c.args.from - c.args.from = omega arith in
    record {
      value = λ honest. subst (λ n. IsLatest (joined (take n (drop c.args.from (blocks_in c.args.tablet.now)))) q.prefix q.since c.args.best c.args.best) none
          (latest_same [] q.prefix q.since c.args.best (λ k d w. absurd (omega arith)));
      over_best = covers_itself c.args.best;
      ticks = omega arith;
      crossed = λ h. omega arith;
      later = omega arith;
    }

pub loop-at-preserved : goal.loop-at-preserved
loop-at-preserved g c =
    let q = c.args.asked.now in
    let blocks = blocks_in c.args.tablet.now in
    let from = c.args.from in
    let at = c.loop-at.at in
    let xs = joined (take (at - from) (drop from blocks)) in
    record {
      value = λ honest.
          let told = c.requires.honest honest in
          let size : length c.args.tablet.now.index ≡ length blocks = ap length told.index_is ∙ length-entries_of 8 blocks in
          let block = get_or blocks at [] in
          let here : slice_get blocks at ≡ Some block = slice_get-get_or blocks at [] (omega (arith, size, c.loop-at-test.true, c.requires.within)) in
          subst (λ (rs : List Record). IsLatest rs q.prefix q.since c.args.best c.in-Ok.later) (sym (block_more blocks from at block c.loop-at.auto.at here))
          (latest_chain xs block q.prefix q.since c.args.best c.loop-at.found c.in-Ok.later (c.loop-at.invariant.value honest) (c.in-Ok.ensures.value honest block here));
      over_best = some_covered c.args.best c.loop-at.found c.in-Ok.later c.loop-at.invariant.over_best c.in-Ok.ensures.over_best;
      ticks = omega (arith, c.loop-at.invariant.ticks, c.latest_of_block.ensures.tick, c.loop-at.auto.at);
      crossed = λ h. absurd (omega (arith, h, c.loop-at-test.true, c.loop-at.auto.at));
      later = omega (arith, c.loop-at.invariant.later, c.latest_of_block.ensures.cause.later);
    }
