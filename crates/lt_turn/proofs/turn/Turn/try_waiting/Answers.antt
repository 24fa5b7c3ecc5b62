use Rattle.std.proofs.Common.{sym, ◌∙◌, arith}
use Rattle.lt_turn.proofs.Allowed.{tries_lock}
use Rattle.lt_turn.proofs.turn.Turn.try_waiting.Goals as goal

pub swap-requires : goal.swap-requires
swap-requires g c = (c.requires.turn ∙ sym c.self.view_is, omega arith, tries_lock _ _ _ _ _ c.args.pass.now.me (λ _. 2) (λ n. omega arith) c.requires.idle)
