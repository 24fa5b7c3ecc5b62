use Rattle.std.proofs.Common.{◌≡◌, ◌∷◌, Some, refl, sym, ap, ◌∙◌, subst, arith}
use Rattle.atomic_table.specs.Table.{rest}
use Rattle.lt_turn.specs.declared.view.View.{View}
use Rattle.lt_turn.specs.declared.rule.Held.{Held}
use Rattle.lt_turn.specs.Rule.{opened, Stocked}
use Rattle.lt_turn.proofs.Lists.{entries_numbered, added_opening}
use Rattle.lt_turn.proofs.Allowed.{opens_turn, gives_lock}
use Rattle.lt_turn.proofs.turn.opened.Goals as goal

pub store-requires : goal.store-requires
store-requires g c =
    let p = c.requires.pass in
    (p.0, omega (arith, c.requires.table.0), opens_turn _ _ _ _ _ c.args.pass.me g.E.Named.list _ (ap (λ m. m.0) p.1) (ap (λ m. m.1) p.1) (c.count-count.ensures _ c.requires.stands))

pub store-requires-2 : goal.store-requires-2
store-requires-2 g c =
    let h : Held g.row.T.Denot g.row.B.Denot = record { value = Some c.args.value; book = c.open-book.result.0 } in
    let p = c.requires.pass in
    let s = c.store.ensures in
    let e = c.exchange.ensures in
    let is : c.exchange.new.seat.me.0 ≡ opened g.E.Named.list = ap (λ m. m.0) e.3 ∙ s.2.0 in
    let stock = subst (λ (v : View g.row.T-Entry.Denot). Stocked g.T.Stands.stands (λ h. h.value) (λ h. h.book.total) v.seen (Some h)) (sym is) record {
      inside = h;
      is = refl;
      shown = c.args.value;
      shows = refl;
      stands_for = subst (g.T.Stands.stands c.args.value) (sym (entries_numbered 0 g.E.Named.list)) c.requires.stands;
      counted = c.open-book.ensures.total ∙ sym (added_opening g.E.Named.list);
    } in (
      e.0 ∙ (s.0 ∙ p.0),
      omega (arith, c.requires.table.0),
      gives_lock _ _ _ _ _ c.exchange.new.seat.me (Some h) (ap (λ (v : View g.row.T-Entry.Denot). v.role) is) (ap (λ m. m.1) e.3 ∙ ap (λ l. (0, Some h) ∷ rest l) s.2.1) stock,
    )
