use Rattle.std.proofs.Common.{◌≡◌, ◌+◌, map, drop, ap, sym, ◌∙◌, true, false, arith}
use Rattle.std.specs.Prelude.{is_some}
use Rattle.std.proofs.lemmas.Grind.{common_steps}
use Rattle.std.proofs.lemmas.List.{map-append}
use Rattle.serde_json.specs.View.{view}
use Rattle.lt_json.specs.FromJson.{misshapen_from, bad_default_from, lawful_default, column_in}
use Rattle.lt_json.proofs.Items.{drop_view, take_step, shaped_more, bad_more, bad_here}
use Rattle.lt_json.proofs.json.read_columns.Goals as goal

pub read_column-requires : goal.read_column-requires
read_column-requires c =
    let at = c.loop-at.at in
    let ds = map view c.args.columns.now in
    let d = view c.index-columns-at.result in
    let cut = drop_view c.args.columns.now at c.index-columns-at.result c.loop-at-test.true c.index-columns-at.is in
    (shaped_more at d (drop (at + 1) ds) (sym (ap (misshapen_from at) cut) ∙ c.loop-at.invariant.shaped)).0

pub returns-in-None-clause-cause : goal.returns-in-None-clause-cause
returns-in-None-clause-cause c =
    let at = c.loop-at.at in
    let ds = map view c.args.columns.now in
    let d = view c.index-columns-at.result in
    let cut = drop_view c.args.columns.now at c.index-columns-at.result c.loop-at-test.true c.index-columns-at.is in
    let is : is_some (lawful_default d) ≡ false = grind (arith, common_steps, c.in_ok-read_column.ensures.lawful) in
    sym c.loop-at.invariant.lawful ∙ ap (bad_default_from at) cut ∙ bad_here at d (drop (at + 1) ds) is

pub loop-at-preserved : goal.loop-at-preserved
loop-at-preserved c =
    let at = c.loop-at.at in
    let ds = map view c.args.columns.now in
    let d = view c.index-columns-at.result in
    let cut = drop_view c.args.columns.now at c.index-columns-at.result c.loop-at-test.true c.index-columns-at.is in
    let is : is_some (lawful_default d) ≡ true = grind (arith, common_steps, c.in_ok-read_column.ensures.lawful) in
    let column : c.in-Some.column ≡ column_in d = grind (arith, common_steps, c.in_ok-read_column.ensures.value) in
    let front = take_step ds at d (drop (at + 1) ds) cut in
    record {
      lawful = sym (ap (bad_default_from at) cut ∙ bad_more at d (drop (at + 1) ds) is) ∙ c.loop-at.invariant.lawful;
      shaped = (shaped_more at d (drop (at + 1) ds) (sym (ap (misshapen_from at) cut) ∙ c.loop-at.invariant.shaped)).1;
      read = rw (front, map-append) (grind (arith, common_steps, column));
    }
