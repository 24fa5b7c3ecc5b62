use Rattle.std.proofs.Common.{◌≡◌, ◌≤◌, true, take, map, Ok}
use Rattle.std.specs.Prelude.{All}
use Rattle.std.specs.Arc.{arc_value}
use Rattle.lt_tablet.specs.Loaded.{Loaded}
use Rattle.lt_loading.specs.Found.{all_found, noted_of, IsSound}
use Rattle.lt_loading.proofs.tablets.load_tablets.Given as goal

-- the listed tablets so far
abbrev pub invariant-loop-entry : goal.invariant-loop-entry
invariant-loop-entry g l = record {
  listed : map (λ (t : Loaded). t.listed) (map arc_value l.tablets.items) ≡ take l.entry-index l.listed;
  found : g.V.Device.honest ≡ true → all_found l.schemas l.anchor.directory.seen.files (take l.entry-index l.listed) ≡ Ok (map noted_of (map arc_value l.tablets.items));
  sound : g.V.Device.honest ≡ true → All (IsSound l.schemas l.anchor.directory.seen.files) (map arc_value l.tablets.items);
  later : g.V.Device.faults l.fn.dev ≤ g.V.Device.faults l.dev;
}
