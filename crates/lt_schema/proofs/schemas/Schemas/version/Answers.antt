use Rattle.std.proofs.Common.{length, ap, arith}
use Rattle.std.proofs.lemmas.Grind.{common_steps}
use Rattle.std.proofs.lemmas.Bool.Decides.{nat_tests}
use Rattle.lt_schema.proofs.Growing.{length-after_each, all_versions-at}
use Rattle.lt_schema.proofs.schemas.Schemas.version.Goals as goal

pub index-requires : goal.index-requires
index-requires c =
    let v = c.args.self.now in
    let len = ap length c.self.invariant.0 in
    let more = length-after_each v.first v.changes in
    grind (arith, common_steps, len, more)

pub returns-clause-value : goal.returns-clause-value
returns-clause-value c =
    let v = c.args.self.now in
    let is = all_versions-at v c.args.ver c.index.result.now in
    grind (arith, common_steps, nat_tests, is, c.self.invariant.0)
