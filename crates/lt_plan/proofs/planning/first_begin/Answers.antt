use Rattle.std.proofs.Common.{◌+◌, length, inl, inr, arith}
use Rattle.std.proofs.lemmas.Bool.{cases_lt}
use Rattle.lt_plan.proofs.Pairs.{past_pairs}
use Rattle.lt_plan.proofs.planning.first_begin.Goals as goal

pub returns-clause-none : goal.returns-clause-none
returns-clause-none c = λ i m. elim (cases_lt (i + 1) (length c.args.list.now)) [
  | inl h ↦ c.loop-at.invariant i (omega arith) m
  | inr h ↦ past_pairs c.args.now c.args.list.now i h m
]
