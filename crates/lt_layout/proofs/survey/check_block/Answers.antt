use Rattle.std.proofs.Common.{◌≡◌, ◌+◌, ◌-◌, ◌++◌, ◌∷◌, [], length, ap, sym, arith}
use Rattle.std.specs.Prelude.{nat_eq}
use Rattle.std.proofs.lemmas.Result.{err_from_is_err_and}
use Rattle.lt_rec.specs.Record.{stored_len}
use Rattle.lt_layout.specs.Spelling.{Entry}
use Rattle.lt_layout.specs.Reading.{own_records_at, own_block_at}
use Rattle.lt_layout.proofs.Loops.{block_stop, block_done, records_next, checks_end, on_ok}
use Rattle.lt_layout.proofs.Own.{own_block_takes}
use Rattle.lt_layout.proofs.survey.check_block.Goals as goal

pub returns-in_err-seen-clause-exact : goal.returns-in_err-seen-clause-exact
returns-in_err-seen-clause-exact c =
    let p = err_from_is_err_and c.from_residual-in_err-seen.result c.from_residual-in_err-seen.ensures.1 in
    rw (p.1, p.2) (block_stop c.loop-done.invariant.1 c.args.totals.now c.args.entry.now c.args.bytes.now c.entry.inside.count c.in_ok-count.count c.in_ok-count.behind.now c.in_ok-test_at.field-0 c.loop-done.done (c.in_ok-count.count - c.loop-done.done - 1) (length c.args.bytes.now - length c.loop-done.rest.now) c.in_err-seen.field-0.0.at c.loop-done.last.now c.loop-done.rest.now (ap (λ (v : Entry). v.count) c.entry.view_is) (omega arith) c.in_ok-count.ensures.exact c.in_ok-test_at.ensures.exact c.loop-done-test.true c.in_err-seen.ensures.fault c.loop-done.invariant.2)

pub loop-done-preserved : goal.loop-done-preserved
loop-done-preserved c =
    let s = c.in_ok-seen.ensures.seen in
    let len : stored_len s.rec + length c.in_ok-seen.seen.rest.now ≡ length c.loop-done.rest.now = s.len in (
      omega (arith, len, c.loop-done.invariant.0),
      c.loop-done.invariant.1 ++ s.rec ∷ [],
      records_next c.loop-done.invariant.1 c.args.totals.now c.args.entry.now c.in_ok-count.count c.loop-done.done (c.in_ok-count.count - c.loop-done.done - 1) (length c.args.bytes.now - length c.loop-done.rest.now) (length c.args.bytes.now - length c.in_ok-seen.seen.rest.now) c.loop-done.last.now c.in_ok-seen.seen.key.now c.loop-done.rest.now s.rec c.in_ok-seen.seen.rest.now (own_records_at c.args.totals.now c.args.entry.now c.in_ok-count.count 4 [] c.in_ok-count.behind.now) c.loop-done-test.true (omega arith) (omega (arith, len, c.loop-done.invariant.0)) (sym s.key_is) s.read_is c.loop-done.invariant.2,
    )

pub returns-clause-exact : goal.returns-clause-exact
returns-clause-exact c =
    checks_end c.test_at-2.result c.loop-done.invariant.1 c.is_empty.result (nat_eq (length c.loop-done.rest.now) 0) (length c.args.bytes.now - length c.loop-done.rest.now) (own_block_at c.args.totals.now c.args.entry.now c.args.bytes.now) c.is_empty.ensures c.test_at-2.ensures.exact
    (block_done c.loop-done.invariant.1 c.args.totals.now c.args.entry.now c.args.bytes.now c.entry.inside.count c.in_ok-count.count c.in_ok-count.behind.now c.in_ok-test_at.field-0 c.loop-done.done (length c.args.bytes.now - length c.loop-done.rest.now) c.loop-done.last.now c.loop-done.rest.now (ap (λ (v : Entry). v.count) c.entry.view_is) c.in_ok-count.ensures.exact c.in_ok-test_at.ensures.exact c.loop-done-test.false c.loop-done.invariant.2)

pub returns-clause-block : goal.returns-clause-block
returns-clause-block c = on_ok c.test_at-2.result (λ recs some read. (own_block_takes c.args.totals.now c.args.entry.now c.args.bytes.now recs (λ i. omega (arith, c.type_inv.bytes i)) c.requires some read).read)
