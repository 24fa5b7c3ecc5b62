use Rattle.std.proofs.Common.{◌≡◌, map, take, drop, []}
use Rattle.serde_json.specs.View.{view}
use Rattle.lt_json.specs.FromJson.{twice_from, names_in}
use Rattle.lt_json.proofs.json.twice.Given as goal

-- all names so far differ
abbrev pub invariant-loop-at : goal.invariant-loop-at
invariant-loop-at l = twice_from l.at (take l.at (names_in (map view l.columns))) (drop l.at (names_in (map view l.columns))) ≡ twice_from 0 [] (names_in (map view l.columns))
