use Rattle.lt_core.proofs.Stones.{table_lent_from}
use Rattle.lt_core.proofs.state.Core.publish.Goals as goal

pub invariant_of-self : goal.invariant_of-self
invariant_of-self g c = table_lent_from _ _ c.publish.new.self c.self.view_is c.self.invariant c.requires.room c.publish.ensures.ceiling
