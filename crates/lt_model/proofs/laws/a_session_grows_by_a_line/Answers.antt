use Rattle.lt_model.specs.Laws.{clock_of}
use Rattle.lt_model.proofs.Growth.{SoFar-more, SoFar-bad}
use Rattle.lt_model.proofs.laws.a_session_grows_by_a_line.Goals as goal

pub returns-clause-command : goal.returns-clause-command
returns-clause-command c = λ shows. SoFar-more (clock_of shows)

pub returns-clause-bad : goal.returns-clause-bad
returns-clause-bad c = λ shows. SoFar-bad (clock_of shows)
