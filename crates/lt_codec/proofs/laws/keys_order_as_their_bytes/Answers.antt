use Rattle.lt_codec.proofs.Keys.{keys_order}
use Rattle.lt_codec.proofs.laws.keys_order_as_their_bytes.Goals as goal

pub returns : goal.returns
returns c = record { order = keys_order }
