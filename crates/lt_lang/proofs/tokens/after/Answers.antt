use Rattle.std.proofs.Common.{arith}
use Rattle.std.proofs.lemmas.Grind.{common_steps}
use Rattle.lt_lang.proofs.Taken.{after-yes, after-no}
use Rattle.lt_lang.proofs.tokens.after.Goals as goal

pub returns : goal.returns
returns c =
    let yes = after-yes c.args.words.now c.args.bytes.now in
    let never = after-no c.args.words.now c.args.bytes.now in
    let cases = c.strip_prefix.ensures.cases in grind (arith, common_steps, yes, never, cases)
