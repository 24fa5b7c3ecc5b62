use Rattle.lt_model.proofs.Fronts.{reading-extended}
use Rattle.lt_model.proofs.laws.readings_after_an_entry.Goals as goal

pub returns : goal.returns
returns c = reading-extended
