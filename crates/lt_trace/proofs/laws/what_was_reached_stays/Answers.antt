use Rattle.lt_trace.proofs.Past.{reached_stays}
use Rattle.lt_trace.proofs.laws.what_was_reached_stays.Goals as goal

pub returns : goal.returns
returns c = reached_stays
