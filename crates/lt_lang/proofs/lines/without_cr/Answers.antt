use Rattle.std.proofs.Common.{arith, sub-one}
use Rattle.std.proofs.lemmas.Grind.{common_steps}
use Rattle.lt_lang.proofs.Cutting.{without_cr-yes, without_cr-no}
use Rattle.lt_lang.proofs.lines.without_cr.Goals as goal

pub returns : goal.returns
returns c =
    let yes = without_cr-yes c.args.line.now in
    let no = without_cr-no c.args.line.now in
    let h = simp sub-one at c.strip_suffix.ensures.cases in grind (arith, common_steps, yes, no)
