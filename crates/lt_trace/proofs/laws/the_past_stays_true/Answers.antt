use Rattle.lt_trace.proofs.Past.{past_outlives}
use Rattle.lt_trace.proofs.laws.the_past_stays_true.Goals as goal

pub returns : goal.returns
returns c = past_outlives
