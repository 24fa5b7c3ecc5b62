use Rattle.std.proofs.Common.{◌≡◌, map, take, drop}
use Rattle.std.specs.Prelude.{None}
use Rattle.serde_json.specs.View.{view}
use Rattle.lt_json.specs.FromJson.{bad_default_from, misshapen_from, column_in}
use Rattle.lt_json.proofs.json.read_columns.Given as goal

-- the columns so far are read, and the others are still of the form
abbrev pub invariant-loop-at : goal.invariant-loop-at
invariant-loop-at l = record {
  lawful : bad_default_from l.at (drop l.at (map view l.columns)) ≡ bad_default_from 0 (map view l.columns);
  shaped : misshapen_from l.at (drop l.at (map view l.columns)) ≡ None;
  read : l.read.items ≡ map column_in (take l.at (map view l.columns));
}
