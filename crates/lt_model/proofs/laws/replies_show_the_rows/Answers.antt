use Rattle.lt_model.specs.Laws.{clock_of}
use Rattle.lt_model.proofs.Shown.{replies-show, numbers-shown}
use Rattle.lt_model.proofs.laws.replies_show_the_rows.Goals as goal

pub returns-clause-shown : goal.returns-clause-shown
returns-clause-shown c = λ shows. replies-show (clock_of shows)

pub returns-clause-once : goal.returns-clause-once
returns-clause-once c = λ shows. numbers-shown (clock_of shows)
