use Rattle.lt_state.proofs.Outlives.{facts_outlive, facts_by_same_records}
use Rattle.lt_state.proofs.Others.{others_leave_memory, others_split_none}
use Rattle.lt_state.proofs.laws.the_facts_outlive_entries_and_notes.Goals as goal

pub returns-clause-entries : goal.returns-clause-entries
returns-clause-entries c = facts_outlive

pub returns-clause-notes : goal.returns-clause-notes
returns-clause-notes c = facts_by_same_records

pub returns-clause-memory : goal.returns-clause-memory
returns-clause-memory c = others_leave_memory

pub returns-clause-none_split : goal.returns-clause-none_split
returns-clause-none_split c = others_split_none
