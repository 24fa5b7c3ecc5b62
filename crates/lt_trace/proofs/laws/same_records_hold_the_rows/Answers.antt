use Rattle.lt_trace.proofs.Same.{same_records_hold}
use Rattle.lt_trace.proofs.laws.same_records_hold_the_rows.Goals as goal

pub returns : goal.returns
returns c = same_records_hold
