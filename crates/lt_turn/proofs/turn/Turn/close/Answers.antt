use Rattle.std.proofs.Common.{◌≡◌, ℕ, ◌+◌, List, ◌∷◌, length, sym, ap, ◌∙◌, subst}
use Rattle.lt_turn.specs.declared.view.View.{View}
use Rattle.lt_turn.specs.Lists.{of, added, total, Every, Differ, numbers}
use Rattle.lt_turn.specs.Rule.{Accounts}
use Rattle.lt_turn.specs.Seats.{view, seen, parts}
use Rattle.lt_turn.proofs.Lists.{alone}
use Rattle.lt_turn.proofs.turn.Turn.close.Goals as goal

-- the same of a view with the same number and entries
as_before : {X : Type 0} (list : List (ℕ × X)) (v w : View X) → w.number ≡ v.number → w.mine ≡ v.mine → w.ended ≡ v.ended → Accounts list w → Accounts list v
as_before {X} list v w number mine ended a = record {
  own = ap (λ (n : ℕ). of n list) (sym number) ∙ (a.own ∙ mine);
  ended = subst (Every (λ e. of e.0 list ≡ e.1)) ended a.ended;
  apart = subst (λ (n : ℕ). Differ (0 ∷ n ∷ numbers v.ended)) number (subst (λ (es : List (ℕ × List X)). Differ (0 ∷ w.number ∷ numbers es)) ended a.apart);
}

pub returns : goal.returns
returns g c =
    let e = c.enter-value.ensures in
    let v : View g.row.T-Entry.Denot = view c.args.seat in
    let list : List (ℕ × g.row.T-Entry.Denot) = seen c.enter-value.new.seat in
    let a : Accounts list v = as_before list v (view c.enter-value.new.seat) e.number e.own.0 e.own.1 e.accounts in
    let parts_are : c.seat.inside.share.parts ≡ parts c.args.seat = ap (λ s. s.1.1) c.seat.view_is ∙ e.parts in
    let view_is : c.seat.inside.pass.me.0 ≡ view c.enter-value.new.seat = ap (λ s. s.1.0) c.seat.view_is in
    let mine_is : c.seat.inside.pass.me.0.mine ≡ v.mine = ap (λ (u : View g.row.T-Entry.Denot). u.mine) view_is ∙ e.own.0 in
    let ended_is : c.seat.inside.pass.me.0.ended ≡ v.ended = ap (λ (u : View g.row.T-Entry.Denot). u.ended) view_is ∙ e.own.1 in
    record {
      list = list;
      stood = e.stands;
      begins = e.begins;
      opening = e.opening;
      accounts = a;
      alone = λ whole. alone v.number v.mine v.ended list a.own a.ended a.apart
          (sym (ap (λ (u : View g.row.T-Entry.Denot). added u.seen) view_is) ∙ (sym (c.audit.ensures.whole (parts_are ∙ whole))
          ∙ (c.seat.invariant.2 ∙ (ap (λ (m : List g.row.T-Entry.Denot). length m + total c.seat.inside.pass.me.0.ended) mine_is ∙ ap (λ (es : List (ℕ × List g.row.T-Entry.Denot)). length v.mine + total es) ended_is))));
    }
