use Rattle.std.proofs.Common.{◌≡◌, Bool, true, false, not, refl, sym, ap, subst, ◌∙◌, arith}
use Rattle.std.specs.Prelude.{All, Option, None, Result, Ok, Err, IfOk}
use Rattle.lt_rec.specs.Boxes.{in_box}
use Rattle.lt_rec.specs.Record.{Record}
use Rattle.lt_rec.specs.declared.raw_box.RawBox.{RawBox}
use Rattle.lt_tablet.specs.Loaded.{IsIndexRange, records_in}
use Rattle.lt_layout.specs.Spelling.{hashes_from}
use Rattle.lt_tablet.specs.declared.errors.ReadError.{ReadError}
use Rattle.lt_probe.specs.Asked.{admits_question}
use Rattle.lt_probe.proofs.Later.{covers_itself}
use Rattle.lt_probe.proofs.OneTablet.{IsFirst, behind, denied, denied_whole, latest_all, blocks_counted}
use Rattle.lt_probe.proofs.by_prefix.latest_of.Goals as goal

admitted_by : (b : Bool) → false ≡ not b → b ≡ true
admitted_by true h = refl
admitted_by false h = absurd cc

if_ok : {P Q : Option Record → Type 0} (r : Result (Option Record) ReadError) → ((x : Option Record) → P x → Q x) → IfOk r P → IfOk r Q
if_ok (Ok x) f h = f x h
if_ok (Err why) f h = tt

pub returns-then-is_earlier-clause-value : goal.returns-then-is_earlier-clause-value
returns-then-is_earlier-clause-value g c = λ honest.
    behind c.args.tablet.now c.args.asked.now.prefix c.args.asked.now.since c.args.best (c.count-count.ensures.honest honest) (sym c.if-is_earlier.ensures)

pub returns-then-is_earlier-clause-over_best : goal.returns-then-is_earlier-clause-over_best
returns-then-is_earlier-clause-over_best g c = covers_itself c.args.best

pub returns-then-is_denied_by-clause-value : goal.returns-then-is_denied_by-clause-value
returns-then-is_denied_by-clause-value g c = λ honest.
    let t = c.args.tablet.now in
    let q = c.args.asked.now in
    let whole = denied_whole q c.filter.result.now c.if-is_denied_by.ensures.exact in
    denied t q.prefix q.since c.args.best (c.requires.whole honest whole)
    (λ held.
    let clash : true ≡ false = sym c.if-is_denied_by.true ∙ c.is_denied_by.ensures.member (hashes_from None (records_in t)) (c.filter.ensures.honest honest) held in
    absurd cc)

pub returns-then-is_denied_by-clause-over_best : goal.returns-then-is_denied_by-clause-over_best
returns-then-is_denied_by-clause-over_best g c = covers_itself c.args.best

pub returns-clause-value : goal.returns-clause-value
returns-clause-value g c = λ honest.
    let t = c.args.tablet.now in
    let q = c.args.asked.now in
    let from = c.index_range-from.result.0 in
    let to = c.index_range-from.result.1 in
    let first = c.first_read-first.result in
    let range = subst (λ (raw_box : RawBox). IsIndexRange t raw_box from to) c.raw_box.ensures c.index_range-from.ensures.exact in
    let is : IsFirst q from to first = record { last = c.first_read-first.ensures.last; part = c.first_read-first.ensures.part; none = c.first_read-first.ensures.none } in
    if_ok c.latest_of_blocks.result
    (latest_all t q from to (c.count-count.ensures.honest honest) range.ordered
    (λ i recs r far. subst (λ (raw_box : RawBox). All (λ (x : Record). in_box raw_box x ≡ false) recs) c.raw_box.ensures (c.index_range-from.ensures.outside honest i recs r far))
    first range is (c.requires.whole honest) c.args.best)
    (c.latest_of_blocks.ensures.value honest)

pub returns-clause-ticks : goal.returns-clause-ticks
returns-clause-ticks g c =
    let t = c.args.tablet.now in
    let q = c.args.asked.now in
    let from = c.index_range-from.result.0 in
    let to = c.index_range-from.result.1 in
    let first = c.first_read-first.result in
    let range = subst (λ (raw_box : RawBox). IsIndexRange t raw_box from to) c.raw_box.ensures c.index_range-from.ensures.exact in
    let is : IsFirst q from to first = record { last = c.first_read-first.ensures.last; part = c.first_read-first.ensures.part; none = c.first_read-first.ensures.none } in
    let admitted : admits_question q t.filter ≡ true = ap (admits_question q) (sym c.filter.ensures.value) ∙ admitted_by (admits_question q c.filter.result.now) (sym c.if-is_denied_by.false ∙ c.is_denied_by.ensures.exact) in
    omega (arith, c.latest_of_blocks.ensures.ticks, blocks_counted t q c.args.best from to first range is (sym c.is_earlier.ensures ∙ c.if-is_earlier.false) admitted)
