use Rattle.lt_model.proofs.Crashes.{crashes_by_front}
use Rattle.lt_model.proofs.laws.later_rows_are_not_durable.Goals as goal

pub returns : goal.returns
returns c = crashes_by_front
