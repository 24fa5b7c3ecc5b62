use Rattle.lt_tablet.proofs.Answering.{known_bytes}
use Rattle.lt_tablet.proofs.loading.read.Goals as goal

pub returns-clause-known : goal.returns-clause-known
returns-clause-known g c = λ honest. known_bytes (g.V.Device.reader_bytes c.args.reader.now) c.in_ok-given.given c.as_slice.result.now c.args.at c.args.len c.each_is_a_byte.ensures c.as_slice.ensures (c.in_ok-given.ensures.bytes honest) c.in_ok-given.ensures.length
