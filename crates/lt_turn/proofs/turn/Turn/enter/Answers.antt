use Rattle.std.proofs.Common.{◌∷◌, sym, ap, ◌∙◌, subst, arith}
use Rattle.lt_turn.specs.declared.view.View.{View}
use Rattle.lt_turn.specs.Rule.{Stocked}
use Rattle.lt_turn.proofs.Allowed.{reads_count}
use Rattle.lt_turn.proofs.Seats.{carries_idle}
use Rattle.lt_turn.proofs.turn.Turn.enter.Goals as goal

pub load-requires : goal.load-requires
load-requires g c = (
  c.lock.ensures.turn ∙ (ap (λ s. s.0) c.seat.view_is ∙ (c.requires.turn ∙ sym c.self.view_is)),
  omega (arith, c.self.invariant.0),
  reads_count _ _ _ _ _ c.lock.new.pass.me (ap (λ (v : View g.row.T-Entry.Denot). v.role) c.lock.ensures.locked),
)

pub take-requires-clause-full : goal.take-requires-clause-full
take-requires-clause-full g c =
    let r = c.load.ensures.2 in
    let idle = ap (λ s. s.1.0.role) c.seat.view_is ∙ c.requires.idle in
    let none = c.lock.ensures.same ∙ carries_idle _ _ c.seat.inside.pass.me.0 c.seat.inside.pass.me.1 c.seat.invariant.0 idle in
    let stock = subst (λ (v : View g.row.T-Entry.Denot). Stocked g.T.Stands.stands (λ h. h.value) (λ h. h.book.total) v.seen r.1) (sym r.2) r.4 in
    (r.1, r.3 ∙ ap (λ l. (0, r.1) ∷ l) none, stock)
