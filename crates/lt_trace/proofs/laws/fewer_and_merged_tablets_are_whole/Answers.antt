use Rattle.lt_trace.proofs.Merged.{fewer_is_whole, merge_is_whole}
use Rattle.lt_trace.proofs.laws.fewer_and_merged_tablets_are_whole.Goals as goal

pub returns-clause-fewer : goal.returns-clause-fewer
returns-clause-fewer c = fewer_is_whole

pub returns-clause-merged : goal.returns-clause-merged
returns-clause-merged c = merge_is_whole
