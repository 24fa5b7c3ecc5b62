use Rattle.std.proofs.Common.{length, ap, arith}
use Rattle.lt_block.proofs.Blocks.{table_len}
use Rattle.lt_block.proofs.block.Block.at.Goals as goal

pub offset_in-requires : goal.offset_in-requires
offset_in-requires c = omega (arith, c.requires, ap length c.as_slice.ensures.value, table_len c.self.inside.bytes c.self.inside.offsets.items c.self.invariant, ap length c.self.view_is)
