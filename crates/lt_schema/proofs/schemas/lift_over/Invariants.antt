use Rattle.std.proofs.Common.{◌≡◌, drop}
use Rattle.lt_schema.specs.Versions.{lifted_over}
use Rattle.lt_schema.proofs.schemas.lift_over.Given as goal

abbrev pub invariant-loop-change : goal.invariant-loop-change
invariant-loop-change l = lifted_over (drop l.change-index l.changes) l.values.items ≡ lifted_over l.changes l.initial.values.items
