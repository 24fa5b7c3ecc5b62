use Rattle.std.proofs.Common.{length, subst, ap, arith}
use Rattle.std.specs.Prelude.{IsTrue}
use Rattle.std.proofs.lemmas.Grind.{common_steps}
use Rattle.lt_schema.specs.Versions.{SchemaVersions, is_versions}
use Rattle.lt_schema.proofs.Growing.{length-after_each, all_versions-newest, is_schema-newest}
use Rattle.lt_schema.proofs.schemas.Schemas.newest.Goals as goal

pub index-requires : goal.index-requires
index-requires c =
    let v = c.args.self.now in
    let len = ap length c.self.invariant.0 in
    let more = length-after_each v.first v.changes in
    grind (arith, common_steps, len, more)

pub returns-clause-value : goal.returns-clause-value
returns-clause-value c =
    let v = c.args.self.now in
    let is = all_versions-newest v c.index.result.now in
    grind (arith, common_steps, is, c.self.invariant.0)

pub returns-clause-lawful : goal.returns-clause-lawful
returns-clause-lawful c = is_schema-newest c.args.self.now (subst (λ (v : SchemaVersions). IsTrue (is_versions v)) c.self.view_is c.self.invariant.1)
