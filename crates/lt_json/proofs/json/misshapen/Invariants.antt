use Rattle.std.proofs.Common.{◌≡◌, map, drop}
use Rattle.serde_json.specs.View.{view}
use Rattle.lt_json.specs.FromJson.{misshapen_from}
use Rattle.lt_json.proofs.json.misshapen.Given as goal

-- all columns so far are of the form
abbrev pub invariant-loop-at : goal.invariant-loop-at
invariant-loop-at l = misshapen_from l.at (drop l.at (map view l.columns)) ≡ misshapen_from 0 (map view l.columns)
