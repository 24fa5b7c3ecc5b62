use Rattle.std.proofs.Common.{◌≡◌, ◌+◌, ◌-◌, ℕ, [], Err, refl, length, sym, ap, ◌∙◌, arith}
use Rattle.std.proofs.lemmas.Result.{err_from_is_err_and}
use Rattle.lt_layout.specs.Spelling.{Entry}
use Rattle.lt_layout.specs.Reading.{entries_at}
use Rattle.lt_layout.proofs.IndexText.{entry_takes}
use Rattle.lt_layout.proofs.Loops.{place_of, place_some, place_none, entries_start, entries_next, entries_stop, entries_done, entry_here, entry_past}
use Rattle.lt_layout.proofs.index.entries_of.Goals as goal

pub loop-done-init : goal.loop-done-init
loop-done-init c = (
  omega arith,
  λ i. omega (arith, c.type_inv.bytes i),
  8,
  refl,
  entries_start c.in_ok-entries.entries.items c.args.index c.args.count (c.args.count - 0) (c.args.index + (length c.args.bytes.now - length c.args.bytes.now)) c.args.bytes.now c.in_ok-entries.ensures.items (omega arith) (omega arith),
)

pub returns-in-None-clause-exact : goal.returns-in-None-clause-exact
returns-in-None-clause-exact c =
    let far = place_none c.loop-done.invariant.2 (sym c.in-None.is ∙ c.loop-done.invariant.3) in
    entries_stop c.loop-done.entries.items c.args.index c.args.count c.loop-done.done (c.args.index + (length c.args.bytes.now - length c.loop-done.rest.now)) c.loop-done.invariant.2 (c.args.index + (length c.args.bytes.now - length c.loop-done.rest.now)) c.loop-done.last.now c.loop-done.rest.now (entries_at c.args.index c.args.count c.args.index 8 [] c.args.bytes.now) c.loop-done-test.true
    (entry_past c.args.index (c.args.count - (c.loop-done.done + 1)) (c.args.index + (length c.args.bytes.now - length c.loop-done.rest.now)) c.loop-done.invariant.2 c.loop-done.last.now c.loop-done.rest.now c.loop-done.invariant.1 far) c.loop-done.invariant.4

pub returns-in_err-entry-clause-exact : goal.returns-in_err-entry-clause-exact
returns-in_err-entry-clause-exact c =
    let p = err_from_is_err_and c.from_residual-in_err-entry.result c.from_residual-in_err-entry.ensures.1 in
    let same : c.loop-done.invariant.2 ≡ c.in-Some.begin = place_some c.loop-done.invariant.2 c.in-Some.begin (sym c.in-Some.is ∙ c.loop-done.invariant.3) in
    rw (p.1, p.2) (entries_stop c.loop-done.entries.items c.args.index c.args.count c.loop-done.done (c.args.index + (length c.args.bytes.now - length c.loop-done.rest.now)) c.loop-done.invariant.2 c.in_err-entry.field-0.0.at c.loop-done.last.now c.loop-done.rest.now (entries_at c.args.index c.args.count c.args.index 8 [] c.args.bytes.now) c.loop-done-test.true
    (entry_here c.args.index (c.args.count - (c.loop-done.done + 1)) (c.args.count - c.loop-done.done - 1) (c.args.index + (length c.args.bytes.now - length c.loop-done.rest.now)) c.loop-done.invariant.2 c.in-Some.begin c.loop-done.last.now c.loop-done.rest.now (Err c.in_err-entry.field-0.0.at) (omega arith) same c.in_err-entry.ensures.exact) c.loop-done.invariant.4)

pub loop-done-preserved : goal.loop-done-preserved
loop-done-preserved c =
    let same : c.loop-done.invariant.2 ≡ c.in-Some.begin = place_some c.loop-done.invariant.2 c.in-Some.begin (sym c.in-Some.is ∙ c.loop-done.invariant.3) in
    let len : length c.in_ok-entry.after.now + 24 + length c.in_ok-entry.entry.first + length c.in_ok-entry.entry.last ≡ length c.loop-done.rest.now = c.in_ok-entry.ensures.len in (
      omega (arith, len, c.loop-done.invariant.0),
      (entry_takes c.args.index (c.args.count - c.loop-done.done - 1) (c.args.index + (length c.args.bytes.now - length c.loop-done.rest.now)) c.in-Some.begin c.loop-done.last.now c.loop-done.rest.now (c.in_ok-entry.entry, c.in_ok-entry.after.now) c.loop-done.invariant.1 c.in_ok-entry.ensures.exact).takes.rest_fits,
      c.loop-done.invariant.2 + c.in_ok-entry.entry.len,
      c.end_of-start.ensures ∙ (ap (λ (n : ℕ). place_of (n + c.entry.inside.len)) (sym same) ∙ ap (λ (v : Entry). place_of (c.loop-done.invariant.2 + v.len)) c.entry.view_is),
      entries_next c.push.new.self.items c.loop-done.entries.items c.in_ok-to_entry.field-0 c.in_ok-entry.entry c.args.index c.args.count c.loop-done.done (c.args.index + (length c.args.bytes.now - length c.loop-done.rest.now)) (c.args.index + (length c.args.bytes.now - length c.in_ok-entry.after.now)) c.loop-done.invariant.2 c.in-Some.begin (c.args.count - c.loop-done.done - 1) c.loop-done.last.now c.entry.inside.last.now c.loop-done.rest.now c.in_ok-entry.after.now (entries_at c.args.index c.args.count c.args.index 8 [] c.args.bytes.now)
          c.loop-done-test.true (omega arith) same (omega (arith, len, c.loop-done.invariant.0)) c.in_ok-push.ensures.items c.in_ok-to_entry.ensures (ap (λ (v : Entry). v.last) c.entry.view_is) c.in_ok-entry.ensures.exact c.loop-done.invariant.4,
    )

pub returns-clause-exact : goal.returns-clause-exact
returns-clause-exact c = entries_done c.loop-done.entries.items c.args.index c.args.count c.loop-done.done (c.args.index + (length c.args.bytes.now - length c.loop-done.rest.now)) c.loop-done.invariant.2 c.loop-done.last.now c.loop-done.rest.now (entries_at c.args.index c.args.count c.args.index 8 [] c.args.bytes.now) c.loop-done-test.false c.loop-done.invariant.4
