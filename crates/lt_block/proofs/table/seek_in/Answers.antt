use Rattle.std.proofs.Common.{sym, arith}
use Rattle.lt_block.specs.Reading.{records_in}
use Rattle.lt_block.proofs.Cuts.{count_is}
use Rattle.lt_block.proofs.table.seek_in.Goals as goal

pub returns : goal.returns
returns c =
    let i = c.loop-low.invariant in
    record { exact = sym (count_is c.args.cut.now (records_in c.args.bytes.now) c.loop-low.low (omega (arith, c.loop-low.invariant.0, c.loop-low.invariant.1)) c.loop-low.invariant.2 (λ k ge lt. c.loop-low.invariant.3 k (omega (arith, ge, c.loop-low-test.false)) lt)) }
