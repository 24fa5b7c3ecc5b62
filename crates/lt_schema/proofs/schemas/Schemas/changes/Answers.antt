use Rattle.std.proofs.Common.{arith}
use Rattle.lt_schema.proofs.Growing.{changes_few}
use Rattle.lt_schema.proofs.schemas.Schemas.changes.Goals as goal

pub returns-clause-few : goal.returns-clause-few
returns-clause-few c = grind (arith, changes_few c.args.self.now)
