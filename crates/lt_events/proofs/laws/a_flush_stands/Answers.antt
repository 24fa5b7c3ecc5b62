use Rattle.lt_events.proofs.Flushing.{flush_stands}
use Rattle.lt_events.proofs.FlushFault.{flush_fault_stands}
use Rattle.lt_events.proofs.laws.a_flush_stands.Goals as goal

pub returns-clause-ok : goal.returns-clause-ok
returns-clause-ok c = flush_stands

pub returns-clause-fault : goal.returns-clause-fault
returns-clause-fault c = flush_fault_stands
