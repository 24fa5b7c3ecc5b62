use Rattle.std.proofs.Common.{◌≡◌, drop}
use Rattle.lt_schema.specs.Check.{wrong_kind_from}
use Rattle.lt_schema.proofs.schema.Schema.wrong_kind.Given as goal

-- all values so far are of their kinds
abbrev pub invariant-loop-at : goal.invariant-loop-at
invariant-loop-at l = wrong_kind_from l.at (drop l.at l.self.columns) (drop l.at l.values) ≡ wrong_kind_from 0 l.self.columns l.values
