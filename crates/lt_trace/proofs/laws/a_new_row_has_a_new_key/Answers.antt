use Rattle.lt_trace.proofs.Keys.{new_row_has_new_key}
use Rattle.lt_trace.proofs.laws.a_new_row_has_a_new_key.Goals as goal

pub returns : goal.returns
returns c = new_row_has_new_key
