use Rattle.lt_model.proofs.Lawful.{IsLegal-accepted}
use Rattle.lt_model.proofs.laws.an_accepted_row_keeps_it_legal.Goals as goal

pub returns : goal.returns
returns c = IsLegal-accepted
