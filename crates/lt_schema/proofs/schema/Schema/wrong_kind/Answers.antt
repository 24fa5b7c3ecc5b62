use Rattle.std.proofs.Common.{sym, ◌∙◌, arith}
use Rattle.lt_schema.proofs.Counting.{wrong_kind-short}
use Rattle.lt_schema.proofs.schema.Schema.wrong_kind.Goals as goal

pub returns-in-None : goal.returns-in-None
returns-in-None c = record { exact = sym (wrong_kind-short c.args.self.now.columns c.args.values.now c.loop-at.at (omega (arith, c.in-None.ensures.lookup.3))) ∙ c.loop-at.invariant }
