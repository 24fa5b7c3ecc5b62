use Rattle.std.proofs.Common.{◌≡◌, ℕ, ◌&&◌, true, false, leb, sym, ap, subst, ◌∙◌, arith}
use Rattle.std.specs.Prelude.{Contains, Option, Some, None, IfNone, All}
use Rattle.lt_rec.specs.Boxes.{in_box}
use Rattle.lt_rec.specs.Record.{Record}
use Rattle.lt_rec.specs.declared.raw_box.RawBox.{RawBox}
use Rattle.lt_bloom.specs.Filter.{admits}
use Rattle.lt_tablet.specs.Loaded.{IsIndexRange}
use Rattle.lt_probe.proofs.Keys.{denied, none_at_that_time, none_short, none_in_none, none_in_one, counted, found_in}
use Rattle.lt_probe.proofs.by_key.number_of.Goals as goal

if_none : {P Q : Type 0} (found : Option ℕ) → (P → Q) → IfNone found P → IfNone found Q
if_none None f p = f p
if_none (Some n) f p = tt

pub returns-then-key-lt-SHORTEST_KEY-clause-none : goal.returns-then-key-lt-SHORTEST_KEY-clause-none
returns-then-key-lt-SHORTEST_KEY-clause-none g c = λ honest. none_short c.args.tablet.now c.args.key.now (c.count-count.ensures.honest honest) (omega arith)

pub returns-then-not-may_have_time-clause-none : goal.returns-then-not-may_have_time-clause-none
returns-then-not-may_have_time-clause-none g c = λ honest.
    let t = c.args.tablet.now in
    let raw_box = c.requires.sought.raw_box (omega arith) in
    none_at_that_time t c.args.key.now (c.count-count.ensures.honest honest)
    (ap (λ (raw_box : RawBox). leb t.listed.low raw_box.from && leb raw_box.from t.listed.high) (sym raw_box) ∙ sym c.may_have_time.ensures ∙ c.if-not-may_have_time.true)

pub returns-then-not-may-clause-none : goal.returns-then-not-may-clause-none
returns-then-not-may-clause-none g c = λ honest.
    let hash = c.requires.sought.hash (omega arith) in
    denied c.args.tablet.now c.args.key.now (sym c.filter.ensures.value ∙ c.filter.ensures.honest honest)
    (λ hashes is held.
    let clash : true ≡ false = sym (c.may.ensures.member hashes (c.filter.ensures.value ∙ is) (subst (Contains hashes) (sym hash) held)) ∙ c.if-not-may.true in
    absurd cc)

pub returns-then-from-to-clause-none : goal.returns-then-from-to-clause-none
returns-then-from-to-clause-none g c = λ honest.
    let raw_box = c.requires.sought.raw_box (omega arith) in
    let t = c.args.tablet.now in
    none_in_none t c.args.key.now c.index_range-from.result.0 c.index_range-from.result.1 (c.count-count.ensures.honest honest)
    (λ i recs q far. subst (λ (raw_box : RawBox). All (λ (r : Record). in_box raw_box r ≡ false) recs) raw_box (c.index_range-from.ensures.outside honest i recs q far))
    c.if-from-to.true

pub returns-in_err-block-clause-ticks : goal.returns-in_err-block-clause-ticks
returns-in_err-block-clause-ticks g c =
    let raw_box = c.requires.sought.raw_box (omega arith) in
    let hash = c.requires.sought.hash (omega arith) in
    let t = c.args.tablet.now in
    let range = subst (λ (raw_box : RawBox). IsIndexRange t raw_box c.index_range-from.result.0 c.index_range-from.result.1) raw_box c.index_range-from.ensures.exact in
    let admitted = ap (λ f. admits f c.args.sought.now.hash) (sym c.filter.ensures.value) ∙ sym c.may.ensures.exact ∙ c.if-not-may.false in
    let may = counted t c.args.key.now c.index_range-from.result.0 c.index_range-from.result.1 range c.if-from-to.false (subst (λ h. admits t.filter h ≡ true) hash admitted) in
    rw may (omega (arith, c.block.ensures.tick))

pub returns-clause-found : goal.returns-clause-found
returns-clause-found g c = λ honest.
    found_in c.args.tablet.now c.args.key.now c.index_range-from.result.0 c.in_ok-block.block c.number_in.result (c.in_ok-block.ensures.value honest) c.number_in.ensures.found

pub returns-clause-none : goal.returns-clause-none
returns-clause-none g c = λ honest.
    let raw_box = c.requires.sought.raw_box (omega arith) in
    let t = c.args.tablet.now in
    let from = c.index_range-from.result.0 in
    let to = c.index_range-from.result.1 in
    let range = subst (λ (raw_box : RawBox). IsIndexRange t raw_box from to) raw_box c.index_range-from.ensures.exact in
    if_none c.number_in.result (λ none. none_in_one t c.args.key.now from to (c.count-count.ensures.honest honest)
    (λ i recs q far. subst (λ (raw_box : RawBox). All (λ (r : Record). in_box raw_box r ≡ false) recs) raw_box (c.index_range-from.ensures.outside honest i recs q far))
    c.count-count.ensures.entries range c.in_ok-block.block (c.in_ok-block.ensures.value honest) none) c.number_in.ensures.none

pub returns-clause-ticks : goal.returns-clause-ticks
returns-clause-ticks g c =
    let raw_box = c.requires.sought.raw_box (omega arith) in
    let hash = c.requires.sought.hash (omega arith) in
    let t = c.args.tablet.now in
    let range = subst (λ (raw_box : RawBox). IsIndexRange t raw_box c.index_range-from.result.0 c.index_range-from.result.1) raw_box c.index_range-from.ensures.exact in
    let admitted = ap (λ f. admits f c.args.sought.now.hash) (sym c.filter.ensures.value) ∙ sym c.may.ensures.exact ∙ c.if-not-may.false in
    let may = counted t c.args.key.now c.index_range-from.result.0 c.index_range-from.result.1 range c.if-from-to.false (subst (λ h. admits t.filter h ≡ true) hash admitted) in
    rw may (omega (arith, c.block.ensures.tick))
