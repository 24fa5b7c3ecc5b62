use Rattle.std.proofs.Common.{sym, subst, rules}
use Rattle.std.specs.Prelude.{Ok}
use Rattle.lt_io.specs.Directory.{Directory}
use Rattle.lt_json.specs.FromJson.{SaysSchema, IsCause as IsSchemaCause}
use Rattle.lt_serve.specs.Made.{Makes}
use Rattle.lt_serve.proofs.Making.{makes_nothing, makes_table, makes_none}
use Rattle.lt_serve.proofs.creating.make.Goals as goal

pub returns-in-Err-clause-makes : goal.returns-in-Err-clause-makes
returns-in-Err-clause-makes g c =
    let cause : IsSchemaCause c.args.text.now c.in-Err.why = search rules in
    makes_nothing g.V.Device.honest c.args.text.now c.args.ttl (g.V.Device.directory c.args.dir) c.in-Err.why cause

pub returns-in-Ok-create-clause-makes : goal.returns-in-Ok-create-clause-makes
returns-in-Ok-create-clause-makes g c =
    let says : SaysSchema c.args.text.now c.in-Ok.schema = search rules in
    let made = c.in-Ok-create.ensures in
    let old = g.V.Device.directory c.args.dir in
    subst (λ (new : Directory). Makes g.V.Device.honest c.args.text.now c.args.ttl old new (Ok tt)) (sym c.into_dir.ensures.same)
    (makes_table g.V.Device.honest c.args.text.now c.args.ttl old c.in-Ok-create.anchor.directory c.in-Ok.schema says made.none made.unspent made.images made.acknowledged made.number made.lends)

pub returns-in-Err-create-clause-makes : goal.returns-in-Err-create-clause-makes
returns-in-Err-create-clause-makes g c =
    let says : SaysSchema c.args.text.now c.in-Ok.schema = search rules in
    let refused = c.in-Err-create.ensures in
    makes_none g.V.Device.honest c.args.text.now c.args.ttl (g.V.Device.directory c.args.dir) (g.V.Device.directory c.in-Err-create.dir) c.in-Ok.schema c.in-Err-create.why says
    refused.exists refused.spent refused.spent_none refused.untouched refused.untouched_seen refused.untouched_lent refused.images refused.at_most_one refused.lends
