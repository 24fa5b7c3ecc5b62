use Rattle.std.proofs.Common.{ap, ◌∙◌}
use Rattle.lt_block.specs.Reading.{block_at}
use Rattle.lt_block.proofs.Blocks.{block_again}
use Rattle.lt_block.proofs.writer.BlockWriter.finish.Goals as goal

pub returns-clause-again : goal.returns-clause-again
returns-clause-again c = ap block_at c.written.ensures.bytes ∙ block_again c.args.self c.written.ensures.block
