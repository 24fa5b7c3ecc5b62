use Rattle.lt_codec.proofs.Round.{row_back}
use Rattle.lt_codec.proofs.laws.rows_are_read_back.Goals as goal

pub returns : goal.returns
returns c = record { back = row_back }
