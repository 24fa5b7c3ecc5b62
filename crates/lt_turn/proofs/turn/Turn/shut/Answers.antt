use Rattle.std.proofs.Common.{sym, ap, ◌∙◌, arith}
use mathlib.Core.Option.{some-injective}
use Rattle.lt_turn.specs.declared.view.View.{View}
use Rattle.lt_turn.proofs.Allowed.{shuts_turn, closes_empty}
use Rattle.lt_turn.proofs.turn.Turn.shut.Goals as goal

pub store-requires : goal.store-requires
store-requires g c = (c.requires.turn ∙ sym c.self.view_is, omega arith, shuts_turn _ _ _ _ _ c.args.pass.me _ c.requires.holds c.requires.empty (omega arith))

pub nothing-requires : goal.nothing-requires
nothing-requires g c =
    some-injective _ _ (sym c.take.ensures.value ∙ closes_empty _ _ _ _ _ _ _ (ap (λ (v : View g.row.T-Entry.Denot). v.role) c.store.ensures.2.0) c.close_with-closed.ensures.values.2)
