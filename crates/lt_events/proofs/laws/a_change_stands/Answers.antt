use Rattle.lt_events.proofs.Altering.{alter_stands, alter_fault_stands}
use Rattle.lt_events.proofs.laws.a_change_stands.Goals as goal

pub returns-clause-ok : goal.returns-clause-ok
returns-clause-ok c = alter_stands

pub returns-clause-fault : goal.returns-clause-fault
returns-clause-fault c = alter_fault_stands
