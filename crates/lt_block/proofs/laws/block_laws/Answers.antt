use Rattle.lt_block.proofs.Blocks.{block_takes, block_again}
use Rattle.lt_block.proofs.laws.block_laws.Goals as goal

pub returns : goal.returns
returns c = record { read_is_spelled = block_takes; spelled_is_read = block_again }
