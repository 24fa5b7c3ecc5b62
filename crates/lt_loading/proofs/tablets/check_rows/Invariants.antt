use Rattle.std.proofs.Common.{◌≡◌, ℕ, ◌<◌, ◌≤◌, true, List, length, slice_index_or}
use Rattle.std.specs.Prelude.{All}
use Rattle.lt_rec.specs.Record.{Record}
use Rattle.lt_tablet.specs.Loaded.{blocks_in}
use Rattle.lt_loading.specs.Rows.{IsOfRow}
use Rattle.lt_loading.proofs.tablets.check_rows.Given as goal

-- the records of the blocks so far are of rows
abbrev pub invariant-loop-i : goal.invariant-loop-i
invariant-loop-i g l = record {
  end : l.i-end ≡ length l.tablet.index;
  later : g.V.Device.faults l.fn.dev ≤ g.V.Device.faults l.dev;
  rows : g.V.Device.honest ≡ true → (k : ℕ) (d : List Record) → k < l.i → All (IsOfRow l.schemas) (slice_index_or (blocks_in l.tablet) k d);
}
