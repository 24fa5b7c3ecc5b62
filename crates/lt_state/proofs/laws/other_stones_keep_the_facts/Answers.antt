use Rattle.lt_state.proofs.Others.{published_facts}
use Rattle.lt_state.proofs.Faults.{fault_keeps_facts}
use Rattle.lt_state.proofs.laws.other_stones_keep_the_facts.Goals as goal

pub returns-clause-published : goal.returns-clause-published
returns-clause-published c = published_facts

pub returns-clause-fault : goal.returns-clause-fault
returns-clause-fault c = fault_keeps_facts
