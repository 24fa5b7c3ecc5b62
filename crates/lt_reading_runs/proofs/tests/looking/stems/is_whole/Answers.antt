use Rattle.std.proofs.Common.{◌≡◌, ◌<◌, true, List, map, take, length, get_or, sym, ap, subst, ◌∙◌, arith}
use Rattle.std.specs.Arc.{arc_value}
use Rattle.std.proofs.lemmas.List.{get_or-map, take_all, length-map}
use Rattle.std.proofs.lemmas.List.Elements.{All-append}
use Rattle.lt_rec.specs.Bytes.{begins_with}
use Rattle.lt_rec.specs.Record.{Record, stem_of}
use Rattle.lt_tablet.specs.Loaded.{Loaded, records_in}
use Rattle.lt_probe.specs.Latest.{IsWholeIn, records_of}
use Rattle.lt_probe.proofs.ManyTablets.{records_more}
use Rattle.lt_reading_runs.proofs.tests.looking.stems.is_whole.Goals as goal

pub loop-tablet-preserved : goal.loop-tablet-preserved
loop-tablet-preserved g c = λ honest.
    let bytes = c.args.bytes.now in
    let x = c.tablet-item.result in
    let t = arc_value x in
    let tablets = c.args.tablets.now in
    let ts = map arc_value tablets in
    let i = c.loop-tablet.tablet-index in
    let size : length ts ≡ length tablets = length-map tablets arc_value in
    let within : i < length ts = omega (arith, size, c.loop-tablet-test.true) in
    let here : get_or ts i t ≡ t = get_or-map arc_value tablets i x t c.loop-tablet-test.true ∙ ap arc_value (sym c.tablet-item.is) in
    let mine = subst (λ (u : Loaded). IsWholeIn (records_in u) bytes) c.deref.ensures (c.in_ok-is_whole_in_tablet.ensures honest c.if-not-branch.false) in
    subst (λ (recs : List Record). IsWholeIn recs bytes) (sym (records_more ts i t within here))
    (All-append (λ (r : Record). begins_with r.key bytes ≡ true → stem_of r.key ≡ bytes) (records_of (take i ts)) (records_in t) (c.loop-tablet.invariant honest) mine)

pub returns : goal.returns
returns g c = λ honest. λ yes.
    let ts = map arc_value c.args.tablets.now in
    let size : length ts ≡ length c.args.tablets.now = length-map c.args.tablets.now arc_value in
    let whole = take_all c.loop-tablet.tablet-index ts (omega (arith, size, c.loop-tablet-test.false)) in
    subst (λ (us : List Loaded). IsWholeIn (records_of us) c.args.bytes.now) whole (c.loop-tablet.invariant honest)
