use Rattle.std.proofs.Common.{length, ap, ◌∙◌}
use Rattle.lt_block.proofs.Blocks.{table_len}
use Rattle.lt_block.proofs.table.count_in.Goals as goal

pub returns : goal.returns
returns c = record { exact = ap length c.as_slice.ensures.value ∙ table_len c.args.bytes.now c.args.offsets.now.items c.requires.table }
