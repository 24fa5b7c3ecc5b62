use Rattle.std.proofs.Common.{length, ap, ◌∙◌}
use Rattle.lt_block.proofs.Blocks.{table_len}
use Rattle.lt_block.proofs.block.Block.count.Goals as goal

pub returns-clause-value : goal.returns-clause-value
returns-clause-value c = ap length c.as_slice.ensures.value ∙ (table_len c.self.inside.bytes c.self.inside.offsets.items c.self.invariant ∙ ap length c.self.view_is)
