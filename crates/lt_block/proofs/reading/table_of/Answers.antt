use Rattle.std.proofs.Common.{arith}
use Rattle.lt_block.proofs.Blocks.{table_reads, table_fails}
use Rattle.lt_block.proofs.reading.table_of.Goals as goal

pub returns : goal.returns
returns c = record {
  read = table_reads c.args.bytes.now c.places_of.result (λ i. omega (arith, c.type_inv.bytes i)) c.places_of.ensures;
  fault = table_fails c.args.bytes.now c.places_of.result c.places_of.ensures;
}
