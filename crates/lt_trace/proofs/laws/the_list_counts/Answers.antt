use Rattle.lt_trace.proofs.Counting.{listing_counts}
use Rattle.lt_trace.proofs.laws.the_list_counts.Goals as goal

pub returns : goal.returns
returns c = listing_counts
