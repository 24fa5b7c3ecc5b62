use Rattle.std.proofs.Common.{sym, ap, ◌∙◌, arith}
use Rattle.lt_turn.proofs.Allowed.{splits_view, numbers_seat}
use Rattle.lt_turn.proofs.turn.Turn.split.Goals as goal

pub split_seat-pass-requires : goal.split_seat-pass-requires
split_seat-pass-requires g c = (
  ap (λ s. s.0) c.seat.view_is ∙ (c.requires.turn ∙ sym c.self.view_is),
  omega (arith, c.self.invariant.0),
  splits_view _ _ _ _ _ (ap (λ s. s.1.0.role) c.seat.view_is ∙ c.requires.idle),
)

pub load-requires : goal.load-requires
load-requires g c =
    let e = c.split_seat-pass.ensures in (
      e.3 ∙ (ap (λ s. s.0) c.seat.view_is ∙ (c.requires.turn ∙ sym c.self.view_is)),
      omega (arith, c.self.invariant.0),
      numbers_seat _ _ _ _ _ c.split_seat-pass.result.me (ap (λ m. m.0.role) e.4),
    )
