use Rattle.std.proofs.Common.{◌<◌, inl, arith}
use Rattle.lt_mem.specs.Lead.{lead_of}
use Rattle.lt_mem.specs.Pieces.{first_key}
use Rattle.lt_mem.proofs.Leads.{lead_less}
use Rattle.lt_mem.proofs.search.begins_after.Goals as goal

pub returns-then-lead : goal.returns-then-lead
returns-then-lead c =
    let first = first_key c.args.piece.now in
    let lt : lead_of 16 c.args.key.now < lead_of 16 first = omega (arith, c.requires.lead.value, c.lead.ensures.value) in
    lead_less 16 c.args.key.now first c.lead.ensures.bytes lt

pub returns-then-lead-2 : goal.returns-then-lead-2
returns-then-lead-2 c =
    let first = first_key c.args.piece.now in
    let lt : lead_of 16 first < lead_of 16 c.args.key.now = omega (arith, c.requires.lead.value, c.lead-2.ensures.value) in
    inl (lead_less 16 first c.args.key.now c.requires.lead.bytes lt)
