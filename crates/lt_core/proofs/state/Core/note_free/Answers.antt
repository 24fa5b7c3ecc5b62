use Rattle.lt_core.proofs.Spending.{noted_now_from, noted_now_in_from, noted_before_in_from}
use Rattle.lt_core.proofs.state.Core.note_free.Goals as goal

pub returns-then-self-clause-stands : goal.returns-then-self-clause-stands
returns-then-self-clause-stands g c = noted_now_from g.V.Device.honest _ _ c.self.view_is _ c.if-self.true c.saturating_add-self-inside.ensures

pub returns-then-self-clause-noted : goal.returns-then-self-clause-noted
returns-then-self-clause-noted g c = λ s stands. noted_now_in_from _ _ c.self.view_is c.if-self.true s

pub returns-else-self-clause-noted : goal.returns-else-self-clause-noted
returns-else-self-clause-noted g c = noted_before_in_from g.V.Device.honest _ _ c.self.view_is c.if-self.false
