use Rattle.std.proofs.Common.{◌≡◌, ◌∷◌, sym, ap, ◌∙◌, arith, ◌+◌, ◌++◌, length, inl}
use Rattle.lt_turn.specs.declared.view.View.{View}
use Rattle.lt_turn.specs.Lists.{total}
use Rattle.lt_turn.specs.Rule.{learned, joined}
use Rattle.lt_turn.proofs.Allowed.{joins_views, learns_list}
use Rattle.lt_turn.proofs.Seats.{carries_idle, total_append}
use Rattle.lt_turn.proofs.turn.Turn.join.Goals as goal

pub join_seat-requires : goal.join_seat-requires
join_seat-requires g c =
    let mine = ap (λ s. s.1.0.role) c.seat.view_is ∙ c.requires.idle.0 in
    let theirs = ap (λ s. s.1.0.role) c.other.view_is ∙ c.requires.idle.1 in (
      ap (λ s. s.0) c.seat.view_is ∙ (c.requires.turn.0 ∙ sym c.self.view_is),
      ap (λ s. s.0) c.other.view_is ∙ (c.requires.turn.1 ∙ sym c.self.view_is),
      carries_idle _ _ c.other.inside.pass.me.0 c.other.inside.pass.me.1 c.other.invariant.0 theirs,
      omega (arith, c.self.invariant.0),
      joins_views _ _ _ _ _ _ _ mine theirs c.seat.invariant.3 c.other.invariant.3,
    )

pub load-requires : goal.load-requires
load-requires g c =
    let e = c.join_seat.ensures in (
      e.0 ∙ (ap (λ s. s.0) c.seat.view_is ∙ (c.requires.turn.0 ∙ sym c.self.view_is)),
      omega (arith, c.self.invariant.0),
      learns_list _ _ _ _ _ c.join_seat.new.seat.me (ap (λ m. m.0.role) e.2 ∙ (ap (λ s. s.1.0.role) c.seat.view_is ∙ c.requires.idle.0)),
    )

pub invariant_of-seat : goal.invariant_of-seat
invariant_of-seat g c =
    let e = c.join_seat.ensures in
    let r = c.load.ensures.2 in
    let v : View g.row.T-Entry.Denot = c.seat.inside.pass.me.0 in
    let w : View g.row.T-Entry.Denot = c.other.inside.pass.me.0 in
    let role = ap (λ s. s.1.0.role) c.seat.view_is ∙ c.requires.idle.0 in
    let is : c.load.new.seat.me.0 ≡ learned r.0.0 (joined v w) = r.0.1 ∙ ap (λ (u : View g.row.T-Entry.Denot). learned r.0.0 u) (ap (λ m. m.0) e.2) in
    let sum = total_append v.ended ((w.number, w.mine) ∷ w.ended) in
    let all : length v.mine + total (v.ended ++ (w.number, w.mine) ∷ w.ended) ≡ c.merge.new.self.amount =
    omega (arith, c.merge.ensures.amount, c.seat.invariant.2, c.other.invariant.2) in (
      inl (
        ap (λ (u : View g.row.T-Entry.Denot). u.role) is ∙ role,
        r.1 ∙ (ap (λ m. m.1) e.2 ∙ carries_idle _ _ c.seat.inside.pass.me.0 c.seat.inside.pass.me.1 c.seat.invariant.0 role),
      ),
      omega (arith, c.merge.ensures.parts, c.seat.invariant.1),
      sym all ∙ ap (λ (u : View g.row.T-Entry.Denot). length u.mine + total u.ended) (sym is),
      ap (λ (u : View g.row.T-Entry.Denot). u.told) is,
    )
