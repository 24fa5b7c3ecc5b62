use Rattle.lt_events.proofs.Purging.{purge_stands, purge_fault_stands}
use Rattle.lt_events.proofs.laws.a_purge_stands.Goals as goal

pub returns-clause-ok : goal.returns-clause-ok
returns-clause-ok c = purge_stands

pub returns-clause-fault : goal.returns-clause-fault
returns-clause-fault c = purge_fault_stands
