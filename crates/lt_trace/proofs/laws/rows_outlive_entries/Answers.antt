use Rattle.lt_trace.proofs.Past.{rows_outlive}
use Rattle.lt_trace.proofs.laws.rows_outlive_entries.Goals as goal

pub returns : goal.returns
returns c = rows_outlive
