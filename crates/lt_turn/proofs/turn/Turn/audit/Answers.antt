use Rattle.std.proofs.Common.{◌∷◌, Some, sym, ap, ◌∙◌}
use Rattle.atomic_table.specs.Table.{rest}
use Rattle.lt_turn.proofs.turn.Turn.audit.Goals as goal

pub exchange-requires : goal.exchange-requires
exchange-requires g c = let e = c.requires.empty in (c.requires.turn ∙ sym c.self.view_is, (Some e.0, e.1 ∙ ap (λ l. (0, Some e.0) ∷ rest l) (sym e.1)))
