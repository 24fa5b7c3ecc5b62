use Rattle.std.proofs.Common.{◌≡◌, [], get_or, ap, sym, ◌∙◌}
use Rattle.std.proofs.lemmas.List.{get_or_default}
use Rattle.lt_rec.specs.Boxes.{is_below}
use Rattle.lt_rec.specs.Record.{Record}
use Rattle.lt_block.specs.Reading.{records_in}
use Rattle.lt_block.specs.Below.{nobody, below_at}
use Rattle.lt_block.proofs.Cuts.{down, up}
use Rattle.lt_block.proofs.table.is_below_at.Goals as goal

pub returns : goal.returns
returns c =
    let same : get_or (records_in c.args.bytes.now) c.args.i nobody ≡ c.record_in.result = get_or_default (records_in c.args.bytes.now) c.args.i nobody c.record_in.result c.requires.within ∙ c.record_in.ensures.value in
    let here : c.below.result ≡ below_at c.args.cut.now (records_in c.args.bytes.now) c.args.i =
    c.below.ensures.exact ∙ (ap (is_below c.args.cut.now) c.key.ensures.value ∙ ap (λ (r : Record). is_below c.args.cut.now r.key) (sym same)) in
    record {
      below = λ yes k le. down c.args.cut.now [] (records_in c.args.bytes.now) k c.args.i c.requires.table.block.rising c.requires.within le (sym here ∙ yes);
      not_below = λ not k le lt. up c.args.cut.now [] (records_in c.args.bytes.now) c.args.i k c.requires.table.block.rising lt le (sym here ∙ not);
    }
