use Rattle.std.proofs.Common.{sym, ◌∙◌, arith, eqb}
use prog.Atomic.{either}
use Rattle.lt_turn.proofs.Allowed.{tries_lock}
use Rattle.lt_turn.proofs.Seats.{held_after}
use Rattle.lt_turn.proofs.turn.Turn.try_lock.Goals as goal

pub compare_exchange-requires : goal.compare_exchange-requires
compare_exchange-requires g c = (c.requires.turn ∙ sym c.self.view_is, omega arith, tries_lock _ _ _ _ _ c.args.pass.now.me (λ n. either (eqb n 0) 1 n) held_after c.requires.idle)
