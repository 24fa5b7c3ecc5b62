use Rattle.std.proofs.Common.{arith, ap}
use Rattle.lt_memdev.proofs.Replays.{all_below_raise}
use Rattle.lt_memdev.proofs.history.History.raise.Goals as goal

pub invariant_of-self : goal.invariant_of-self
invariant_of-self c = all_below_raise _ _ c.args.ceiling (omega (arith, ap (λ h. h.now.ceiling) c.self.view_is, c.requires.up)) c.requires.in_range c.self.invariant
