-- Tablets in memory, and the files that are written of them.
use Rattle.std.specs.Prelude.{ℕ, ◌≡◌, ◌<◌, ⊤, Bool, List, [], ◌∷◌, length}
use Rattle.std.specs.List.{AllByRecursion}
use Rattle.lt_rec.specs.Periods.{Stretch, InPeriod}
use Rattle.lt_rec.specs.Record.{Record}
use Rattle.lt_tablet.specs.Loaded.{Loaded}
use Rattle.lt_tablet.specs.Writing.{IsListing, HasRecords}

-- a tablet in memory, its records, their period, and the number of the file that is to be written
pub record Part : Type 0 where
  pub tablet : ℕ
  pub recs : List Record
  pub period : Stretch
  pub file : ℕ

-- the file that was written of a tablet
pub record Output : Type 0 where
  pub tablet : ℕ
  pub fresh : Loaded

-- the tablet has a record, and the timestamps of all lie in the period
pub record MayBeWritten (part : Part) : Type 0 where
  pub some : 0 < length part.recs
  pub timed : AllByRecursion (λ r. InPeriod part.period r.ts) part.recs

-- the file of this number has exactly the tablet's records, and its listing tells their totals and their period
pub record IsOutput (honest : Bool) (part : Part) (output : Output) : Type 0 where
  pub tablet : output.tablet ≡ part.tablet
  pub records : HasRecords honest output.fresh part.recs
  pub listing : IsListing output.fresh.listed part.file part.period

-- one file for each tablet, in order
abbrev pub AreOutputs : Bool → List Part → List Output → Type 0
AreOutputs honest [] [] = ⊤
AreOutputs honest (part ∷ parts) (output ∷ outputs) = IsOutput honest part output × AreOutputs honest parts outputs
AreOutputs honest _ _ = ⊥
