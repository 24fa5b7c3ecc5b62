use Rattle.lt_events.proofs.Committing.{given_takes_along, given_is_same}
use Rattle.lt_events.proofs.laws.a_given_flush_is_its_tablets.Goals as goal

pub returns-clause-takes : goal.returns-clause-takes
returns-clause-takes c = given_takes_along

pub returns-clause-same : goal.returns-clause-same
returns-clause-same c = given_is_same c.rows_have_one_spelling.ensures.only
