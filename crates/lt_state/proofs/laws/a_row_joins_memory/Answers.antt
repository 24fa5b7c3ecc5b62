use Rattle.lt_state.proofs.Joining.{row_joins_memory, row_splits_none, new_key_stays_apart}
use Rattle.lt_state.proofs.laws.a_row_joins_memory.Goals as goal

pub returns-clause-memory : goal.returns-clause-memory
returns-clause-memory c = row_joins_memory

pub returns-clause-none_split : goal.returns-clause-none_split
returns-clause-none_split c = row_splits_none

pub returns-clause-keys : goal.returns-clause-keys
returns-clause-keys c = new_key_stays_apart
