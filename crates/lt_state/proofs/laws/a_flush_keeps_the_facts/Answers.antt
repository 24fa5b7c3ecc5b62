use Rattle.lt_state.proofs.Flush.{flush_holds, flush_splits_none}
use Rattle.lt_state.proofs.Jobs.{flush_is_whole, flush_leaves_memory}
use Rattle.lt_state.proofs.Committed.{flush_keeps_facts}
use Rattle.lt_state.proofs.laws.a_flush_keeps_the_facts.Goals as goal

pub returns-clause-rows : goal.returns-clause-rows
returns-clause-rows c = flush_holds

pub returns-clause-none_split : goal.returns-clause-none_split
returns-clause-none_split c = flush_splits_none

pub returns-clause-whole : goal.returns-clause-whole
returns-clause-whole c = flush_is_whole

pub returns-clause-memory : goal.returns-clause-memory
returns-clause-memory c = flush_leaves_memory

pub returns-clause-facts : goal.returns-clause-facts
returns-clause-facts c = flush_keeps_facts
