use Rattle.lt_codec.proofs.Sole.{one_spelling}
use Rattle.lt_codec.proofs.laws.rows_have_one_spelling.Goals as goal

pub returns : goal.returns
returns c = record { only = one_spelling }
