use Rattle.std.proofs.Common.{◌<◌, get_or, arith}
use Rattle.lt_mem.specs.Lead.{lead_of}
use Rattle.lt_mem.proofs.Leads.{lead_less}
use Rattle.lt_mem.proofs.search.order_at.Goals as goal

pub returns-then-held-lead : goal.returns-then-held-lead
returns-then-held-lead c d =
    let held = (get_or c.args.recs.now c.args.at d).key in
    let own = c.requires.leads.each c.args.at d c.requires.held in
    let lt : lead_of 16 held < lead_of 16 c.args.key.now = omega (arith, own.value, c.requires.lead.value, c.if-held-lead.true) in
    lead_less 16 held c.args.key.now c.requires.lead.bytes lt

pub returns-then-lead-held : goal.returns-then-lead-held
returns-then-lead-held c d =
    let held = (get_or c.args.recs.now c.args.at d).key in
    let own = c.requires.leads.each c.args.at d c.requires.held in
    let lt : lead_of 16 c.args.key.now < lead_of 16 held = omega (arith, own.value, c.requires.lead.value, c.if-lead-held.true) in
    lead_less 16 c.args.key.now held own.bytes lt
