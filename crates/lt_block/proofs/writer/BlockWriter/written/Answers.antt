use Rattle.std.proofs.Common.{◌<◌, length, ap, arith}
use Rattle.lt_block.specs.Filling.{held}
use Rattle.lt_block.proofs.Filling.{long_enough}
use Rattle.lt_block.proofs.writer.BlockWriter.written.Goals as goal

pub set_count-requires : goal.set_count-requires
set_count-requires c =
    let some : 0 < length (held c.self.inside.count c.self.inside.bytes.items) = omega (arith, ap length c.self.view_is, c.requires.some) in
    omega (arith, ap length c.deref_mut.ensures.value, long_enough c.self.inside.count c.self.inside.bytes.items (held c.self.inside.count c.self.inside.bytes.items) c.self.invariant some)
