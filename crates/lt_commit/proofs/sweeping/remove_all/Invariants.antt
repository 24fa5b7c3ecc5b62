use Rattle.std.proofs.Common.{◌≡◌, ℕ, ◌≤◌, None, true, Contains, take}
use Rattle.lt_io.specs.Device.{KeepsLent}
use Rattle.lt_io.specs.Directory.{Fits, file_at}
use Rattle.lt_io.specs.Steps.{Steps}
use Rattle.lt_commit.specs.Moments.{Sweeps}
use Rattle.lt_commit.specs.Swept.{SeesKept}
use Rattle.lt_commit.proofs.sweeping.remove_all.Given as goal

abbrev pub invariant-loop-file : goal.invariant-loop-file
invariant-loop-file g l = record {
  any_moment : g.V.Device.honest ≡ true → Steps (Sweeps (Contains l.files)) (g.V.Device.directory l.initial.dir) (g.V.Device.directory l.dir);
  gone : g.V.Device.honest ≡ true → (file : ℕ) → Contains (take l.file-index l.files) file → file_at (g.V.Device.directory l.dir).seen.files file ≡ None;
  kept : g.V.Device.honest ≡ true → SeesKept (Contains l.files) (g.V.Device.directory l.initial.dir).seen (g.V.Device.directory l.dir).seen;
  possible : g.V.Device.honest ≡ true → Fits (g.V.Device.directory l.initial.dir).seen (g.V.Device.directory l.initial.dir).now → Fits (g.V.Device.directory l.dir).seen (g.V.Device.directory l.dir).now;
  lent : KeepsLent (g.V.Device.directory l.initial.dir) (g.V.Device.directory l.dir);
  later : g.V.Device.faults l.initial.dev ≤ g.V.Device.faults l.dev;
}
