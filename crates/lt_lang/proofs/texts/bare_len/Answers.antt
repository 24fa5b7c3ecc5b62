use Rattle.std.proofs.Common.{arith}
use Rattle.lt_lang.proofs.Pieces.{bare_found, bare_all}
use Rattle.lt_lang.proofs.texts.bare_len.Goals as goal

pub returns-in-Some-clause-len : goal.returns-in-Some-clause-len
returns-in-Some-clause-len c =
    let first = c.in-Some.ensures.0 in
    bare_found c.args.bytes.now c.in-Some.at first.high (λ j h. first.before j (omega arith) h) c.in-Some.ensures.1

pub returns-in-None-clause-len : goal.returns-in-None-clause-len
returns-in-None-clause-len c = bare_all c.args.bytes.now (λ j h. c.in-None.ensures j (omega arith) h)
