use Rattle.std.proofs.Common.{◌≡◌, ◌+◌, ◌<◌, ◌≤◌, true, List, [], map, take, length, get_or, sym, ap, subst, ◌∙◌, arith}
use Rattle.std.specs.Arc.{arc_value}
use Rattle.std.proofs.lemmas.List.{get_or-map, length-map}
use Rattle.lt_rec.specs.Bytes.{begins_with}
use Rattle.lt_rec.specs.Record.{Record, stem_of}
use Rattle.lt_tablet.specs.Causes.{IsOfFile}
use Rattle.lt_tablet.specs.Loaded.{Loaded, records_in}
use Rattle.lt_probe.specs.Counting.{blocks_asked}
use Rattle.lt_probe.specs.Latest.{IsLatest, IsWholeIn, records_of}
use Rattle.lt_probe.proofs.Later.{covers_itself, some_covered, latest_same, latest_chain}
use Rattle.lt_probe.proofs.ManyTablets.{records_more, all_in, sum_more, sum_all, fewer}
use Rattle.lt_probe.proofs.Tablets.{of_one}
use Rattle.lt_probe.proofs.by_prefix.latest_among.Goals as goal

pub loop-tablet-init : goal.loop-tablet-init
loop-tablet-init g c =
    let q = c.args.asked.now in
    record {
      value = λ honest. latest_same [] q.prefix q.since c.args.best (λ k d w. absurd (omega arith));
      over_best = covers_itself c.args.best;
      ticks = omega arith;
      later = omega arith;
    }

pub latest_of-requires-clause-whole : goal.latest_of-requires-clause-whole
latest_of-requires-clause-whole g c κs inside = λ honest whole.
    let x = c.tablet-item.result in
    let t = arc_value x in
    let tablets = c.args.tablets.now in
    let ts = map arc_value tablets in
    let i = c.loop-tablet.tablet-index in
    let size : length ts ≡ length tablets = length-map tablets arc_value in
    let within : i < length ts = omega (arith, size, c.loop-tablet-test.true) in
    let here : get_or ts i t ≡ t = get_or-map arc_value tablets i x t c.loop-tablet-test.true ∙ ap arc_value (sym c.tablet-item.is) in
    let q = c.args.asked.now in
    let best = c.args.best in
    subst (λ (u : Loaded). IsWholeIn (records_in u) q.prefix) (sym c.deref.ensures)
    (all_in ts i t within here (λ (r : Record). begins_with r.key q.prefix ≡ true → stem_of r.key ≡ q.prefix) (c.requires.whole honest whole))

pub returns-in-Err-clause-ticks : goal.returns-in-Err-clause-ticks
returns-in-Err-clause-ticks g c =
    let x = c.tablet-item.result in
    let t = arc_value x in
    let tablets = c.args.tablets.now in
    let ts = map arc_value tablets in
    let i = c.loop-tablet.tablet-index in
    let size : length ts ≡ length tablets = length-map tablets arc_value in
    let within : i < length ts = omega (arith, size, c.loop-tablet-test.true) in
    let here : get_or ts i t ≡ t = get_or-map arc_value tablets i x t c.loop-tablet-test.true ∙ ap arc_value (sym c.tablet-item.is) in
    let q = c.args.asked.now in
    let best = c.args.best in
    let mine = subst (λ (u : Loaded). c.latest_of.new.steps ≤ c.loop-tablet.steps + blocks_asked q c.loop-tablet.found u) c.deref.ensures c.latest_of.ensures.ticks in
    let own : c.latest_of.new.steps ≤ c.loop-tablet.steps + blocks_asked q best t = omega (arith, mine, fewer q t best c.loop-tablet.found c.loop-tablet.invariant.over_best) in
    sum_all ts i t within here (blocks_asked q best) c.args.steps.now c.loop-tablet.steps c.latest_of.new.steps c.loop-tablet.invariant.ticks own

pub returns-in-Err-clause-names : goal.returns-in-Err-clause-names
returns-in-Err-clause-names g c =
    let x = c.tablet-item.result in
    let t = arc_value x in
    let tablets = c.args.tablets.now in
    let ts = map arc_value tablets in
    let i = c.loop-tablet.tablet-index in
    let size : length ts ≡ length tablets = length-map tablets arc_value in
    let within : i < length ts = omega (arith, size, c.loop-tablet-test.true) in
    let here : get_or ts i t ≡ t = get_or-map arc_value tablets i x t c.loop-tablet-test.true ∙ ap arc_value (sym c.tablet-item.is) in
    let q = c.args.asked.now in
    let best = c.args.best in
    of_one ts i t c.in-Err.why within here (subst (λ (u : Loaded). IsOfFile u.listed.file c.in-Err.why) c.deref.ensures c.in-Err.ensures.names)

pub loop-tablet-preserved : goal.loop-tablet-preserved
loop-tablet-preserved g c =
    let x = c.tablet-item.result in
    let t = arc_value x in
    let tablets = c.args.tablets.now in
    let ts = map arc_value tablets in
    let i = c.loop-tablet.tablet-index in
    let size : length ts ≡ length tablets = length-map tablets arc_value in
    let within : i < length ts = omega (arith, size, c.loop-tablet-test.true) in
    let here : get_or ts i t ≡ t = get_or-map arc_value tablets i x t c.loop-tablet-test.true ∙ ap arc_value (sym c.tablet-item.is) in
    let q = c.args.asked.now in
    let best = c.args.best in
    let mine = subst (λ (u : Loaded). c.latest_of.new.steps ≤ c.loop-tablet.steps + blocks_asked q c.loop-tablet.found u) c.deref.ensures c.latest_of.ensures.ticks in
    let own : c.latest_of.new.steps ≤ c.loop-tablet.steps + blocks_asked q best t = omega (arith, mine, fewer q t best c.loop-tablet.found c.loop-tablet.invariant.over_best) in
    record {
      value = λ honest.
          let step = subst (λ (u : Loaded). IsLatest (records_in u) q.prefix q.since c.loop-tablet.found c.in-Ok.later) c.deref.ensures (c.in-Ok.ensures.value honest) in
          subst (λ (recs : List Record). IsLatest recs q.prefix q.since best c.in-Ok.later) (sym (records_more ts i t within here))
          (latest_chain (records_of (take i ts)) (records_in t) q.prefix q.since best c.loop-tablet.found c.in-Ok.later (c.loop-tablet.invariant.value honest) step);
      over_best = some_covered best c.loop-tablet.found c.in-Ok.later c.loop-tablet.invariant.over_best c.in-Ok.ensures.over_best;
      ticks = sum_more ts i t within here (blocks_asked q best) c.args.steps.now c.loop-tablet.steps c.latest_of.new.steps c.loop-tablet.invariant.ticks own;
      later = omega (arith, c.loop-tablet.invariant.later, c.latest_of.ensures.cause.later);
    }
