use Rattle.lt_codec.proofs.Keys.{cuts_stand}
use Rattle.lt_codec.proofs.laws.cuts_stand_with_their_values.Goals as goal

pub returns : goal.returns
returns c = record { place = cuts_stand }
