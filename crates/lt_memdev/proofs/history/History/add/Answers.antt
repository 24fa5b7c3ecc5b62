use Rattle.std.proofs.Common.{ap, sym, subst}
use Rattle.lt_memdev.specs.History.{IsLent}
use Rattle.lt_memdev.proofs.Replays.{past_added, now_added, all_below_added}
use Rattle.lt_memdev.proofs.history.History.add.Goals as goal

pub invariant_of-self : goal.invariant_of-self
invariant_of-self c = all_below_added _ _ _ _ _ c.push_within.ensures.items (subst (IsLent c.args.change) (sym (ap (λ h. h.now.ceiling) c.self.view_is)) c.requires.lent) c.self.invariant

pub returns-clause-past : goal.returns-clause-past
returns-clause-past c = rw (← c.self.view_is) (past_added _ _ _ _ _ c.push_within.ensures.items)

pub returns-clause-now : goal.returns-clause-now
returns-clause-now c = rw (← c.self.view_is) (now_added _ _ _ _ _ c.push_within.ensures.items)
