use Rattle.std.proofs.Common.{ℕ, List, subst}
use Rattle.lt_state.specs.State.{Filled}
use Rattle.lt_memory.specs.Tablets.{NoneHasKey}
use Rattle.lt_memory.proofs.take.begin.Goals as goal

pub find-requires : goal.find-requires
find-requires c = record {
  timed = rw (c.as_slice.ensures.value, c.key.ensures.value, c.ts.ensures.value) c.requires.timed;
}

pub returns-clause-distinct : goal.returns-clause-distinct
returns-clause-distinct c =
    subst (λ (key : List ℕ). NoneHasKey c.args.tablets.now.items key) c.key.ensures.value
    (subst (λ (ts : List Filled). NoneHasKey ts c.key.result.now) c.as_slice.ensures.value c.in_default.ensures.none)
