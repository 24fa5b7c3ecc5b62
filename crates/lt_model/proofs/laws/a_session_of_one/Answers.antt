use Rattle.lt_model.specs.Laws.{clock_of}
use Rattle.lt_model.proofs.Growth.{IsSession-one}
use Rattle.lt_model.proofs.laws.a_session_of_one.Goals as goal

pub returns-clause-one : goal.returns-clause-one
returns-clause-one c = λ shows. IsSession-one (clock_of shows)
