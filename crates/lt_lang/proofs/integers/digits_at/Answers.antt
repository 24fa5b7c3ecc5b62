use Rattle.std.proofs.Common.{arith}
use Rattle.lt_lang.proofs.Runs.{run_read}
use Rattle.lt_lang.proofs.integers.digits_at.Goals as goal

pub returns : goal.returns
returns c =
    run_read c.args.bytes.now c.read_digits-len.result.0 c.read_digits-len.result.1 c.split_at.result.1.now c.read_digits-len.ensures.end c.read_digits-len.ensures.value
    c.split_at.ensures.back (omega (arith, c.if-len-gt19.false))
