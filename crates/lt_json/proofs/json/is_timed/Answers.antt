use Rattle.std.proofs.Common.{◌≡◌, ◌-◌, map, ap, sym, ◌∙◌, arith}
use Rattle.std.specs.Prelude.{Some, option_map, slice_get}
use Rattle.std.proofs.lemmas.Option.{slice_get-map, slice_get-get_or}
use Rattle.serde_json.specs.View.{view}
use Rattle.lt_json.specs.FromJson.{column_in}
use Rattle.lt_json.proofs.json.is_timed.Goals as goal

pub returns-in-Some : goal.returns-in-Some
unfolding column_in
returns-in-Some c =
    let d = view c.in-Some.column.now in
    let got : slice_get c.args.columns.now (c.args.key_len - 1) ≡ Some c.in-Some.column.now =
    (let h = c.in-Some.ensures.lookup in
    let at : c.saturating_sub.result ≡ c.args.key_len - 1 = omega arith in
    rw (← at) (slice_get-get_or c.args.columns.now c.saturating_sub.result c.in-Some.column.now h.3.0 ∙ ap Some (sym h.1))) in
    let is : slice_get (map column_in (map view c.args.columns.now)) (c.args.key_len - 1) ≡ Some (column_in d) =
    slice_get-map column_in (map view c.args.columns.now) (c.args.key_len - 1) ∙ ap (option_map column_in) (slice_get-map view c.args.columns.now (c.args.key_len - 1) ∙ ap (option_map view) got) in
    rw is (cc)
