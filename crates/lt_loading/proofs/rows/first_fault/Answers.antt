use Rattle.std.proofs.Common.{◌<◌, length, arith}
use Rattle.lt_loading.specs.Rows.{IsOfRow}
use Rattle.lt_loading.proofs.Offsets.{reads, one_more, fault_there}
use Rattle.lt_loading.proofs.rows.first_fault.Goals as goal

pub returns-then-not-branch-clause-first : goal.returns-then-not-branch-clause-first
returns-then-not-branch-clause-first c =
    let within : c.loop-i.i < length c.args.block.now = omega (arith, c.loop-i.invariant.end, c.loop-i-test.true) in
    record {
      within = within;
      before = λ k d lt. reads c.args.schemas.now _ (c.loop-i.invariant.rows k d lt);
      fault = fault_there c.args.schemas.now c.args.block.now c.loop-i.i c.in_ok-rec.rec c.in_ok-is_row.field-0 within c.in_ok-rec.ensures.value c.in_ok-is_row.ensures.exact c.if-not-branch.true;
    }

pub loop-i-preserved : goal.loop-i-preserved
loop-i-preserved c =
    let within : c.loop-i.i < length c.args.block.now = omega (arith, c.loop-i.invariant.end, c.loop-i-test.true) in
    record {
      end = c.loop-i.invariant.end;
      rows = one_more (IsOfRow c.args.schemas.now) c.args.block.now c.loop-i.i c.in_ok-rec.rec within c.in_ok-rec.ensures.value c.loop-i.invariant.rows (c.in_ok-is_row.ensures.row c.if-not-branch.false);
    }
