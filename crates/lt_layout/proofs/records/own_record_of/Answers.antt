use Rattle.std.proofs.Common.{sym, ◌∙◌, arith}
use Rattle.lt_layout.proofs.Seen.{seen_own, seen_long}
use Rattle.lt_layout.proofs.records.own_record_of.Goals as goal

pub seen_suits-requires : goal.seen_suits-requires
seen_suits-requires c = seen_long c.args.at c.args.last.now c.args.bytes.now c.in-Ok.seen.key.now c.in-Ok.seen.ts c.in-Ok.seen.seq c.in-Ok.seen.rest.now (λ i. omega (arith, c.type_inv.bytes i)) c.in-Ok.ensures.seen

pub returns-clause-seen : goal.returns-clause-seen
returns-clause-seen c = seen_own c.args.totals.now c.args.entry.now c.args.left c.args.at c.args.last.now c.args.bytes.now c.in-Ok.seen.key.now c.in-Ok.seen.ts c.in-Ok.seen.seq c.in-Ok.seen.rest.now (λ i. omega (arith, c.type_inv.bytes i)) c.in-Ok.ensures.seen (sym c.seen_suits.ensures ∙ c.if-seen_suits.true)

pub returns-clause-long_enough : goal.returns-clause-long_enough
returns-clause-long_enough c = seen_long c.args.at c.args.last.now c.args.bytes.now c.in-Ok.seen.key.now c.in-Ok.seen.ts c.in-Ok.seen.seq c.in-Ok.seen.rest.now (λ i. omega (arith, c.type_inv.bytes i)) c.in-Ok.ensures.seen
