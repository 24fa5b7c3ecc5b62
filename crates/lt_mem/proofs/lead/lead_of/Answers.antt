use Rattle.std.proofs.Common.{ap, ◌∙◌, get_or, arith}
use Rattle.std.proofs.lemmas.List.{get_or-take}
use Rattle.lt_mem.proofs.Leads.{lead_read}
use Rattle.lt_mem.proofs.lead.lead_of.Goals as goal

pub returns-in-Some : goal.returns-in-Some
returns-in-Some c =
    let key = c.args.key.now in
    lead_read c.in-Some.first.now key c.from_be_bytes.result (λ i h. ap (λ bs. get_or bs i 0) c.in-Some.ensures.cases.same ∙ get_or-take 16 key i 0 h) c.from_be_bytes.ensures (λ i. omega (arith, c.type_inv.key i))

pub returns-in-None : goal.returns-in-None
returns-in-None c = lead_read c.padded.result c.args.key.now c.from_be_bytes-in-None.result (λ i h. c.padded.ensures i) c.from_be_bytes-in-None.ensures (λ i. omega (arith, c.type_inv.key i))
