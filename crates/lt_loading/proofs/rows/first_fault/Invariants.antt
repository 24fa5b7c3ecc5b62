use Rattle.std.proofs.Common.{◌≡◌, ℕ, ◌<◌, length, slice_index_or}
use Rattle.lt_rec.specs.Record.{Record}
use Rattle.lt_loading.specs.Rows.{IsOfRow}
use Rattle.lt_loading.proofs.rows.first_fault.Given as goal

-- the records so far are of rows
abbrev pub invariant-loop-i : goal.invariant-loop-i
invariant-loop-i l = record {
  end : l.i-end ≡ length l.block;
  rows : (k : ℕ) (d : Record) → k < l.i → IsOfRow l.schemas (slice_index_or l.block k d);
}
