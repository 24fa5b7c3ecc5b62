use Rattle.lt_model.proofs.Singles.{one_answer, one_latest}
use Rattle.lt_model.proofs.laws.each_query_has_one_answer.Goals as goal

pub returns-clause-answer : goal.returns-clause-answer
returns-clause-answer c = one_answer

pub returns-clause-latest : goal.returns-clause-latest
returns-clause-latest c = one_latest
