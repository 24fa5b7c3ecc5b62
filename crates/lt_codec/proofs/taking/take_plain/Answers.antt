use Rattle.std.proofs.Common.{◌≡◌, take, drop}
use Rattle.lt_codec.proofs.Zeros.{plain_is}
use Rattle.lt_codec.proofs.taking.take_plain.Goals as goal

pub returns-clause-exact : goal.returns-clause-exact
returns-clause-exact c =
    let found = c.in_ok-end.ensures in
    let plain = plain_is c.in_ok-end.end c.args.bytes.now found.0.before c.if-end-bytes.false found.1 c.if-bytes-end-ne0.false in
    rw (c.split_at.ensures.front, c.split_at-2.ensures.back) plain
