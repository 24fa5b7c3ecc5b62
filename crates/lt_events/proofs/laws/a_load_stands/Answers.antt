use Rattle.lt_events.proofs.Loading.{load_stands}
use Rattle.lt_events.proofs.laws.a_load_stands.Goals as goal

pub returns : goal.returns
returns c = load_stands
