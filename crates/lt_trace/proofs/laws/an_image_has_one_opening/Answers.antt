use Rattle.lt_trace.proofs.Opening.{some_opening, one_opening}
use Rattle.lt_trace.proofs.laws.an_image_has_one_opening.Goals as goal

pub returns-clause-some : goal.returns-clause-some
returns-clause-some c = some_opening

pub returns-clause-one : goal.returns-clause-one
returns-clause-one c = one_opening
