use Rattle.std.proofs.Common.{◌≡◌, ◌+◌, [], ◌∷◌, Some, refl, sym, ap, ◌∙◌}
use Rattle.atomic_table.specs.Table.{rest}
use Rattle.lt_turn.specs.declared.rule.Held.{Held}
use Rattle.lt_turn.proofs.Seats.{one_slot}
use Rattle.lt_turn.proofs.turn.Turn.put.Goals as goal

pub exchange-requires : goal.exchange-requires
exchange-requires g c = let e = c.requires.empty in (c.requires.turn ∙ sym c.self.view_is, (Some e.0, e.1 ∙ ap (λ l. (0, Some e.0) ∷ rest l) (sym e.1)))

pub returns-clause-full : goal.returns-clause-full
returns-clause-full g c =
    let h : Held g.row.T.Denot g.row.B.Denot = record { value = Some c.args.value; book = c.add.new.self } in
    let e = c.requires.empty in
    let out : c.args.pass.now.me.1 ≡ (0, c.exchange.result) ∷ rest c.args.pass.now.me.1 = c.exchange.ensures.2 in
    let was : c.args.pass.now.me.1 ≡ (0, Some e.0) ∷ [] = e.1 in
    let first = ap (λ m. m.1) c.exchange.ensures.3 in
    let second = ap (λ m. m.1) c.exchange-2.ensures.3 in
    let same : e.0 ≡ c.in-Some.held = one_slot c.args.pass.now.me.1 (rest c.args.pass.now.me.1) (Some e.0) c.exchange.result e.0 c.in-Some.held was refl out c.in-Some.is in (
      Some h,
      second ∙ (ap (λ l. (0, Some h) ∷ rest l) first ∙ ap (λ l. (0, Some h) ∷ rest l) was),
      record {
        inside = h;
        is = refl;
        shown = c.args.value;
        shows = refl;
        stands_for = c.requires.stands;
        counted = c.add.ensures.total ∙ (ap (λ (x : Held g.row.T.Denot g.row.B.Denot). x.book.total + c.args.more) (sym same) ∙ e.3);
      },
    )
