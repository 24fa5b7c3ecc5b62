use Rattle.std.proofs.Common.{◌≡◌, ◌<◌, length, map, get_or, ◌∙◌, ap, sym, arith}
use Rattle.std.specs.Arc.{arc_value}
use Rattle.std.proofs.lemmas.List.{get_or-map, length-map}
use Rattle.lt_core.specs.Parts.{sealed}
use Rattle.lt_core.specs.Inserts.{is_probed}
use Rattle.lt_core.proofs.Sought.{none_more, none_at_all, listed_in, ticks_more, ticks_all}
use Rattle.lt_core.proofs.seeking.number_among.Goals as goal

pub returns-in-Ok-Some-clause-found : goal.returns-in-Ok-Some-clause-found
returns-in-Ok-Some-clause-found g c = λ honest.
    listed_in (λ tablet. sealed (arc_value tablet)) c.args.tablets.now c.loop-tablet.tablet-index c.tablet-item.result c.args.key.now c.in-Ok-Some.seq c.loop-tablet-test.true c.tablet-item.is
    (rw c.in-Ok-Some.field-0-is at (c.in-Ok-Some.ensures.found honest))

pub returns-in-Ok-Some-clause-ticks : goal.returns-in-Ok-Some-clause-ticks
returns-in-Ok-Some-clause-ticks g c =
    let x = c.tablet-item.result in
    let ts = map arc_value c.args.tablets.now in
    let i = c.loop-tablet.tablet-index in
    let size : length ts ≡ length c.args.tablets.now = length-map c.args.tablets.now arc_value in
    let within : i < length ts = omega (arith, size, c.loop-tablet-test.true) in
    let here : get_or ts i (arc_value x) ≡ arc_value x = get_or-map arc_value c.args.tablets.now i x (arc_value x) c.loop-tablet-test.true ∙ ap arc_value (sym c.tablet-item.is) in
    ticks_all (is_probed c.args.key.now c.args.clear) ts i (arc_value x) within here c.args.steps.now c.loop-tablet.steps c.number_in.new.steps c.loop-tablet.invariant.ticks c.number_in.ensures.ticks

pub returns-in-Err-clause-ticks : goal.returns-in-Err-clause-ticks
returns-in-Err-clause-ticks g c =
    let x = c.tablet-item.result in
    let ts = map arc_value c.args.tablets.now in
    let i = c.loop-tablet.tablet-index in
    let size : length ts ≡ length c.args.tablets.now = length-map c.args.tablets.now arc_value in
    let within : i < length ts = omega (arith, size, c.loop-tablet-test.true) in
    let here : get_or ts i (arc_value x) ≡ arc_value x = get_or-map arc_value c.args.tablets.now i x (arc_value x) c.loop-tablet-test.true ∙ ap arc_value (sym c.tablet-item.is) in
    ticks_all (is_probed c.args.key.now c.args.clear) ts i (arc_value x) within here c.args.steps.now c.loop-tablet.steps c.number_in.new.steps c.loop-tablet.invariant.ticks c.number_in.ensures.ticks

pub returns-clause-none : goal.returns-clause-none
returns-clause-none g c = λ honest. none_at_all (λ tablet. sealed (arc_value tablet)) c.args.tablets.now c.loop-tablet.tablet-index c.args.key.now c.args.clear c.loop-tablet-test.false (c.loop-tablet.invariant.none honest)

pub loop-tablet-preserved : goal.loop-tablet-preserved
loop-tablet-preserved g c =
    let x = c.tablet-item.result in
    let ts = map arc_value c.args.tablets.now in
    let i = c.loop-tablet.tablet-index in
    let size : length ts ≡ length c.args.tablets.now = length-map c.args.tablets.now arc_value in
    let within : i < length ts = omega (arith, size, c.loop-tablet-test.true) in
    let here : get_or ts i (arc_value x) ≡ arc_value x = get_or-map arc_value c.args.tablets.now i x (arc_value x) c.loop-tablet-test.true ∙ ap arc_value (sym c.tablet-item.is) in
    record {
      none = λ honest. none_more (λ tablet. sealed (arc_value tablet)) c.args.tablets.now i x c.args.key.now c.args.clear c.loop-tablet-test.true c.tablet-item.is (c.loop-tablet.invariant.none honest)
          (rw c.in-Ok-None.field-0-is at (c.in-Ok-None.ensures.none honest));
      ticks = ticks_more (is_probed c.args.key.now c.args.clear) ts i (arc_value x) within here c.args.steps.now c.loop-tablet.steps c.number_in.new.steps c.loop-tablet.invariant.ticks c.number_in.ensures.ticks;
      later = omega (arith, c.loop-tablet.invariant.later, c.number_in.ensures.cause.later);
    }
