use Rattle.lt_state.proofs.Closed.{closed_is_job}
use Rattle.lt_state.proofs.Jobs.{job_takes_along}
use Rattle.lt_state.proofs.laws.a_closed_set_takes_all_along.Goals as goal

pub returns-clause-closed : goal.returns-clause-closed
returns-clause-closed c = closed_is_job

pub returns-clause-later : goal.returns-clause-later
returns-clause-later c = job_takes_along
