use Rattle.std.proofs.lemmas.List.Sorted.{IsPermutation-sym, IsPermutation-to_front}
use Rattle.lt_kway.proofs.Ranked.{last_first}
use Rattle.lt_kway.proofs.heads.Heads.take.Goals as goal

pub returns-clause-taken : goal.returns-clause-taken
returns-clause-taken c =
    let head = c.in_ok-source.field-0 in
    let rest = c.pop.new.self in
    rw (← c.self.view_is, c.in_ok-source.ensures.taken) (IsPermutation-sym _ _ (IsPermutation-to_front rest head))

pub returns-clause-least : goal.returns-clause-least
returns-clause-least c =
    let i = c.self.inside in
    let head = c.in_ok-source.field-0 in
    rw (← c.self.view_is) (last_first i.down c.pop.new.self i.heads head c.in_ok-source.ensures.taken c.self.invariant)
