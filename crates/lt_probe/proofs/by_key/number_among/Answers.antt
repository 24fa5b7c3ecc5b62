use Rattle.std.proofs.Common.{◌≡◌, ◌≢◌, ◌+◌, ◌<◌, ◌≤◌, cond, List, map, take, length, get_or, sym, ap, subst, ◌∙◌, arith}
use Rattle.std.specs.Arc.{arc_value}
use Rattle.std.proofs.lemmas.List.{get_or-map, take_all, length-map}
use Rattle.std.proofs.lemmas.List.Elements.{All-append}
use Rattle.lt_rec.specs.Record.{Record}
use Rattle.lt_tablet.specs.Causes.{IsOfFile}
use Rattle.lt_tablet.specs.Loaded.{Loaded, records_in}
use Rattle.lt_probe.specs.Keys.{NoneHas, HasNumber, may_have_key}
use Rattle.lt_probe.specs.Latest.{records_of}
use Rattle.lt_probe.proofs.ManyTablets.{any_in, records_more}
use Rattle.lt_probe.proofs.Tablets.{of_one, ticks_more, ticks_all}
use Rattle.lt_probe.proofs.by_key.number_among.Goals as goal

pub returns-in-Err-clause-names : goal.returns-in-Err-clause-names
returns-in-Err-clause-names g c =
    let x = c.tablet-item.result in
    let t = arc_value x in
    let tablets = c.args.tablets.now in
    let ts = map arc_value tablets in
    let i = c.loop-tablet.tablet-index in
    let size : length ts ≡ length tablets = length-map tablets arc_value in
    let within : i < length ts = omega (arith, size, c.loop-tablet-test.true) in
    let here : get_or ts i t ≡ t = get_or-map arc_value tablets i x t c.loop-tablet-test.true ∙ ap arc_value (sym c.tablet-item.is) in
    of_one ts i t c.in-Err.why within here (subst (λ (u : Loaded). IsOfFile u.listed.file c.in-Err.why) c.deref.ensures c.in-Err.ensures.names)

pub returns-in-Err-clause-ticks : goal.returns-in-Err-clause-ticks
returns-in-Err-clause-ticks g c =
    let x = c.tablet-item.result in
    let t = arc_value x in
    let tablets = c.args.tablets.now in
    let ts = map arc_value tablets in
    let i = c.loop-tablet.tablet-index in
    let size : length ts ≡ length tablets = length-map tablets arc_value in
    let within : i < length ts = omega (arith, size, c.loop-tablet-test.true) in
    let here : get_or ts i t ≡ t = get_or-map arc_value tablets i x t c.loop-tablet-test.true ∙ ap arc_value (sym c.tablet-item.is) in
    let p = may_have_key c.args.key.now in
    let own = subst (λ (u : Loaded). c.number_of.new.steps ≤ c.loop-tablet.steps + cond (p u) 1 0) c.deref.ensures c.number_of.ensures.ticks in
    ticks_all p ts i t within here c.args.steps.now c.loop-tablet.steps c.number_of.new.steps c.loop-tablet.invariant.ticks own

pub returns-in-Ok-Some-clause-found : goal.returns-in-Ok-Some-clause-found
returns-in-Ok-Some-clause-found g c = λ honest.
    let x = c.tablet-item.result in
    let t = arc_value x in
    let tablets = c.args.tablets.now in
    let ts = map arc_value tablets in
    let i = c.loop-tablet.tablet-index in
    let size : length ts ≡ length tablets = length-map tablets arc_value in
    let within : i < length ts = omega (arith, size, c.loop-tablet-test.true) in
    let here : get_or ts i t ≡ t = get_or-map arc_value tablets i x t c.loop-tablet-test.true ∙ ap arc_value (sym c.tablet-item.is) in
    any_in ts i t within here (λ (r : Record). (r.seq ≡ c.in-Ok-Some.seq) × (r.key ≡ c.args.key.now))
    (subst (λ (u : Loaded). HasNumber (records_in u) c.args.key.now c.in-Ok-Some.seq) c.deref.ensures (rw c.in-Ok-Some.field-0-is at (c.in-Ok-Some.ensures.found honest)))

pub returns-in-Ok-Some-clause-ticks : goal.returns-in-Ok-Some-clause-ticks
returns-in-Ok-Some-clause-ticks g c =
    let x = c.tablet-item.result in
    let t = arc_value x in
    let tablets = c.args.tablets.now in
    let ts = map arc_value tablets in
    let i = c.loop-tablet.tablet-index in
    let size : length ts ≡ length tablets = length-map tablets arc_value in
    let within : i < length ts = omega (arith, size, c.loop-tablet-test.true) in
    let here : get_or ts i t ≡ t = get_or-map arc_value tablets i x t c.loop-tablet-test.true ∙ ap arc_value (sym c.tablet-item.is) in
    let p = may_have_key c.args.key.now in
    let own = subst (λ (u : Loaded). c.number_of.new.steps ≤ c.loop-tablet.steps + cond (p u) 1 0) c.deref.ensures c.number_of.ensures.ticks in
    ticks_all p ts i t within here c.args.steps.now c.loop-tablet.steps c.number_of.new.steps c.loop-tablet.invariant.ticks own

pub returns-clause-none : goal.returns-clause-none
returns-clause-none g c = λ honest.
    let ts = map arc_value c.args.tablets.now in
    let size : length ts ≡ length c.args.tablets.now = length-map c.args.tablets.now arc_value in
    let whole = take_all c.loop-tablet.tablet-index ts (omega (arith, size, c.loop-tablet-test.false)) in
    subst (λ (us : List Loaded). NoneHas (records_of us) c.args.key.now) whole (c.loop-tablet.invariant.none honest)

pub loop-tablet-preserved : goal.loop-tablet-preserved
loop-tablet-preserved g c =
    let x = c.tablet-item.result in
    let t = arc_value x in
    let tablets = c.args.tablets.now in
    let ts = map arc_value tablets in
    let i = c.loop-tablet.tablet-index in
    let size : length ts ≡ length tablets = length-map tablets arc_value in
    let within : i < length ts = omega (arith, size, c.loop-tablet-test.true) in
    let here : get_or ts i t ≡ t = get_or-map arc_value tablets i x t c.loop-tablet-test.true ∙ ap arc_value (sym c.tablet-item.is) in
    let p = may_have_key c.args.key.now in
    let own = subst (λ (u : Loaded). c.number_of.new.steps ≤ c.loop-tablet.steps + cond (p u) 1 0) c.deref.ensures c.number_of.ensures.ticks in
    record {
      none = λ honest.
          let mine = subst (λ (u : Loaded). NoneHas (records_in u) c.args.key.now) c.deref.ensures (rw c.in-Ok-None.field-0-is at (c.in-Ok-None.ensures.none honest)) in
          subst (λ (recs : List Record). NoneHas recs c.args.key.now) (sym (records_more ts i t within here))
          (All-append (λ (r : Record). r.key ≢ c.args.key.now) (records_of (take i ts)) (records_in t) (c.loop-tablet.invariant.none honest) mine);
      ticks = ticks_more p ts i t within here c.args.steps.now c.loop-tablet.steps c.number_of.new.steps c.loop-tablet.invariant.ticks own;
      later = omega (arith, c.loop-tablet.invariant.later, c.number_of.ensures.cause.later);
    }
