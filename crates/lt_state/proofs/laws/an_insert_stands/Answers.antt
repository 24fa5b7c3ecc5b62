use Rattle.lt_state.proofs.Inserting.{insert_stands}
use Rattle.lt_state.proofs.laws.an_insert_stands.Goals as goal

pub returns : goal.returns
returns c = insert_stands
