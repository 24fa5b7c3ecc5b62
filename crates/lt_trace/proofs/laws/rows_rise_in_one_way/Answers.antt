use Rattle.lt_trace.proofs.Rising.{rows_can_rise, rising_is_one}
use Rattle.lt_trace.proofs.laws.rows_rise_in_one_way.Goals as goal

pub returns-clause-some : goal.returns-clause-some
returns-clause-some c = rows_can_rise

pub returns-clause-one : goal.returns-clause-one
returns-clause-one c = rising_is_one
