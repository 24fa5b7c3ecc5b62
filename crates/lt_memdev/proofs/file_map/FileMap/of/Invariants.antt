use Rattle.std.proofs.Common.{◌≡◌, ◌≤◌, ℕ, length, drop}
use Rattle.lt_io.specs.Directory.{file_at}
use Rattle.lt_memdev.proofs.file_map.FileMap.of.Given as goal

-- the files from here on
abbrev pub invariant-loop-at : goal.invariant-loop-at
invariant-loop-at l = record {
  within : l.at ≤ length l.files;
  same : (number : ℕ) → file_at l.map number ≡ file_at (drop l.at l.files) number;
}

abbrev pub decreases-loop-at : goal.decreases-loop-at
decreases-loop-at l = l.at
