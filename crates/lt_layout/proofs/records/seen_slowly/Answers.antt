use Rattle.std.proofs.Common.{length, ap, arith}
use Rattle.lt_block.proofs.Records.{record_takes}
use Rattle.lt_layout.proofs.Own.{own_record_takes}
use Rattle.lt_layout.proofs.records.seen_slowly.Goals as goal

pub returns-clause-long_enough : goal.returns-clause-long_enough
returns-clause-long_enough c =
    let read = own_record_takes c.args.totals.now c.args.entry.now c.args.left c.args.at c.args.last.now c.args.bytes.now (c.in_ok-rec.rec, c.in_ok-rec.rest.now) (λ i. omega (arith, c.type_inv.bytes i)) c.in_ok-rec.ensures.exact in
    omega (arith, (record_takes c.args.at c.args.last.now c.args.bytes.now (c.in_ok-rec.rec, c.in_ok-rec.rest.now) (λ i. omega (arith, c.type_inv.bytes i)) read.0).lawful.long_enough, ap length c.key.ensures.value)
