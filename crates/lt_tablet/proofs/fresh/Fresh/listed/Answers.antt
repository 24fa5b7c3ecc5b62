use Rattle.std.proofs.Common.{sym, ap, ◌∙◌}
use Rattle.lt_rec.specs.declared.listed.Listed.{Listed}
use Rattle.lt_layout.specs.Spelling.{totals_of, listed_totals}
use Rattle.lt_tablet.specs.Loaded.{Loaded, records_in}
use Rattle.lt_tablet.proofs.fresh.Fresh.listed.Goals as goal

pub returns-clause-honest : goal.returns-clause-honest
returns-clause-honest g c = λ honest. ap (λ (l : Listed). listed_totals l) c.self.invariant.0 ∙ (sym (c.self.invariant.2 honest).totals ∙ ap (λ (t : Loaded). totals_of (records_in t)) c.self.view_is)
