use Rattle.std.proofs.Common.{◌≡◌, ◌∷◌, None, Some, refl, sym, ap, ◌∙◌}
use Rattle.atomic_table.specs.Table.{rest}
use Rattle.lt_turn.specs.declared.rule.Held.{Held}
use Rattle.lt_turn.proofs.Seats.{one_slot}
use Rattle.lt_turn.proofs.turn.Turn.take.Goals as goal

pub returns-clause-empty : goal.returns-clause-empty
returns-clause-empty g c =
    let h : Held g.row.T.Denot g.row.B.Denot = record { value = None; book = c.in-Some.held.book } in
    let f = c.requires.full in
    let stock = f.2 in
    let out : c.args.pass.now.me.1 ≡ (0, c.exchange.result) ∷ rest c.args.pass.now.me.1 = c.exchange.ensures.2 in
    let first = ap (λ m. m.1) c.exchange.ensures.3 in
    let second = ap (λ m. m.1) c.exchange-2.ensures.3 in
    let same : stock.inside ≡ c.in-Some.held = one_slot c.args.pass.now.me.1 (rest c.args.pass.now.me.1) f.0 c.exchange.result stock.inside c.in-Some.held f.1 stock.is out c.in-Some.is in (
      h,
      second ∙ (ap (λ l. (0, Some h) ∷ rest l) first ∙ ap (λ l. (0, Some h) ∷ rest l) f.1),
      refl,
      ap (λ (x : Held g.row.T.Denot g.row.B.Denot). x.book.total) (sym same) ∙ stock.counted,
    )
