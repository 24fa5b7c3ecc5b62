use Rattle.std.proofs.Common.{◌<◌, refl, arith}
use Rattle.lt_mem.specs.Lead.{lead_of}
use Rattle.lt_mem.specs.Pieces.{first_key}
use Rattle.lt_mem.proofs.Order.{less_not_back}
use Rattle.lt_mem.proofs.Leads.{lead_less}
use Rattle.lt_mem.proofs.reach.begins_below.Goals as goal

pub returns-then-lead : goal.returns-then-lead
returns-then-lead c =
    let first = first_key c.args.piece.now in
    let lt : lead_of 16 first < lead_of 16 c.args.cut.now.bytes = omega (arith, c.requires.lead.value, c.lead.ensures.value) in
    rw (lead_less 16 first c.args.cut.now.bytes c.requires.lead.bytes lt) refl

pub returns-then-not-cut : goal.returns-then-not-cut
returns-then-not-cut c =
    let first = first_key c.args.piece.now in
    let lt : lead_of 16 c.args.cut.now.bytes < lead_of 16 first = omega (arith, c.requires.lead.value, c.lead-2.ensures.value) in
    rw (less_not_back c.args.cut.now.bytes first (lead_less 16 c.args.cut.now.bytes first c.lead-2.ensures.bytes lt), c.if-not-cut.true) refl
