use Rattle.std.proofs.Common.{List, sym, subst}
use Rattle.lt_deps.specs.Kept.{StandsFor}
use Rattle.lt_state.specs.State.{Filled}
use Rattle.lt_memory.specs.Tablets.{Tablets}
use Rattle.lt_memory.specs.Waiting.{HasAll, numbers_of}
use Rattle.lt_memory.proofs.memory.Memory.closure.Goals as goal

pub returns-in_ok-with_needed-in-Ok-clause-closed : goal.returns-in_ok-with_needed-in-Ok-clause-closed
returns-in_ok-with_needed-in-Ok-clause-closed c = λ notes h noted.
    c.in_ok-with_needed-in-Ok.ensures.closed notes
    (subst (λ (v : Tablets). StandsFor v.dependencies notes) (sym c.self.view_is) h)
    (subst (λ (ts : List Filled). HasAll notes (numbers_of ts)) (sym c.as_slice-tablets.ensures.value) (subst (λ (v : Tablets). HasAll notes (numbers_of v.tablets)) (sym c.self.view_is) noted))
