use Rattle.std.proofs.Common.{◌≡◌, map, drop}
use Rattle.std.specs.List.{list_any}
use Rattle.serde_json.specs.View.{view}
use Rattle.lt_json.specs.FromJson.{is_same, names_in}
use Rattle.lt_json.proofs.json.is_taken.Given as goal

abbrev pub invariant-loop-column : goal.invariant-loop-column
invariant-loop-column l = list_any (is_same l.name) (names_in (map view (drop l.column-index l.columns))) ≡ list_any (is_same l.name) (names_in (map view l.columns))
