use Rattle.lt_plan.proofs.Halving.{unmerged}
use Rattle.lt_plan.proofs.law.unmerged_sizes_halve.Goals as goal

pub returns : goal.returns
returns c = record { halve = unmerged }
