use Rattle.lt_state.proofs.Verdict.{found_is_present, none_found_is_new}
use Rattle.lt_state.proofs.laws.the_verdict_is_by_records.Goals as goal

pub returns-clause-found : goal.returns-clause-found
returns-clause-found c = found_is_present

pub returns-clause-new : goal.returns-clause-new
returns-clause-new c = none_found_is_new
