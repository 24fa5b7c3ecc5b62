use Rattle.std.proofs.Common.{◌≡◌, ◌+◌, map, drop, ap, sym, ◌∙◌}
use Rattle.serde_json.specs.View.{view}
use Rattle.lt_json.specs.FromJson.{misshapen_from, is_column}
use Rattle.std.proofs.Common.{true, false}
use Rattle.lt_json.proofs.Items.{drop_view, misshapen_more, misshapen_here}
use Rattle.lt_json.proofs.json.misshapen.Goals as goal

pub returns-then-not-is_column-clause-value : goal.returns-then-not-is_column-clause-value
returns-then-not-is_column-clause-value c =
    let ds = map view c.args.columns.now in
    let d = view c.index-columns-at.result in
    let cut = drop_view c.args.columns.now c.loop-at.at c.index-columns-at.result c.loop-at-test.true c.index-columns-at.is in
    let is : is_column d ≡ false = cc in
    sym (sym c.loop-at.invariant ∙ ap (misshapen_from c.loop-at.at) cut ∙ misshapen_here c.loop-at.at d (drop (c.loop-at.at + 1) ds) is)

pub loop-at-preserved : goal.loop-at-preserved
loop-at-preserved c =
    let ds = map view c.args.columns.now in
    let d = view c.index-columns-at.result in
    let cut = drop_view c.args.columns.now c.loop-at.at c.index-columns-at.result c.loop-at-test.true c.index-columns-at.is in
    let is : is_column d ≡ true = cc in
    sym (ap (misshapen_from c.loop-at.at) cut ∙ misshapen_more c.loop-at.at d (drop (c.loop-at.at + 1) ds) is) ∙ c.loop-at.invariant
