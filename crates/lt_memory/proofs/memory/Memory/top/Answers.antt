use Rattle.std.proofs.Common.{◌≡◌, Bool, true, false, [], List, Contains, ⊎_elim, subst}
use Rattle.std.specs.Prelude.{IfNone}
use Rattle.std.proofs.lemmas.Bool.{cases_Bool}
use Rattle.lt_state.specs.State.{Filled}
use Rattle.lt_memory.specs.Tablets.{Tablets}
use Rattle.lt_memory.specs.Sharing.{TopOf, is_part}
use Rattle.lt_memory.proofs.Growing.{if_none}
use Rattle.lt_memory.proofs.memory.Memory.top.Goals as goal

pub returns-clause-none : goal.returns-clause-none
returns-clause-none c =
    let i = c.self.inside in
    let found : TopOf i.tablets.items c.args.parts.now c.top_of.result = subst (λ (ts : List Filled). TopOf ts c.args.parts.now c.top_of.result) c.as_slice.ensures.value c.top_of.ensures in
    subst (λ (v : Tablets). IfNone c.top_of.result ((tablet : Filled) → Contains v.tablets tablet → is_part c.args.parts.now tablet ≡ false)) c.self.view_is
    (if_none c.top_of.result ((tablet : Filled) → Contains i.tablets.items tablet → is_part c.args.parts.now tablet ≡ true → tablet.recs ≡ []) ((tablet : Filled) → Contains i.tablets.items tablet → is_part c.args.parts.now tablet ≡ false)
    (λ none tablet among. ⊎_elim (λ part. absurd (c.self.invariant.are.some tablet among (none tablet among part))) (λ other. other) (cases_Bool (is_part c.args.parts.now tablet)))
    found.none)
