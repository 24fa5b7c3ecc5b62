use Rattle.lt_model.proofs.Lawful.{IsLegal-front, IsLegal-lawful}
use Rattle.lt_model.proofs.laws.legal_histories.Goals as goal

pub returns-clause-fronts : goal.returns-clause-fronts
returns-clause-fronts c = IsLegal-front

pub returns-clause-entry : goal.returns-clause-entry
returns-clause-entry c = IsLegal-lawful
