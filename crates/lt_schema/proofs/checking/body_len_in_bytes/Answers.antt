use Rattle.std.proofs.Common.{arith}
use Rattle.lt_schema.proofs.Counting.{len_under-all, len_under-short}
use Rattle.lt_schema.proofs.checking.body_len_in_bytes.Goals as goal

pub returns-in-None : goal.returns-in-None
returns-in-None c = omega (arith, len_under-short c.args.columns.now c.args.values.now c.loop-at.at (omega (arith, c.in-None.ensures.lookup.3)), c.loop-at.invariant)

pub returns : goal.returns
returns c = omega (arith, len_under-all c.args.columns.now c.args.values.now c.loop-at.at (omega arith), c.loop-at.invariant)
