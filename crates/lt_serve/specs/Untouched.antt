-- What refusals leave that stand before a table is made or loaded, and what the counts of faults tell.
use Rattle.std.specs.Prelude.{◌≡◌, ⊤, ℕ, List, [], ◌∷◌}
use Rattle.lt_io.specs.Device.{Counts}
use Rattle.lt_serve.specs.declared.status.Status.{Status}
use Rattle.lt_serve.specs.declared.status.Status.TheVariants.{Usage, SourceFault, SinkFault, TooLong, DeviceFault, BadSchema}

abbrev pub StandsBefore : Status → Type 0
StandsBefore Usage = ⊤
StandsBefore SourceFault = ⊤
StandsBefore TooLong = ⊤
StandsBefore (BadSchema why) = ⊤
StandsBefore _ = ⊥

-- the count of the first of the devices
abbrev pub first_count : {V : Type 0} → (V → ℕ) → List V → ℕ
first_count count [] = 0
first_count count (first ∷ others) = count first

-- the counts of faults of the source, the sink and the first device
pub record Tally : Type 0 where
  pub source : ℕ
  pub sink : ℕ
  pub device : ℕ

-- a fault of an object is told only where its count rose, and no count falls
pub record TellsFaults (before now : Tally) (status : Status) : Type 0 where
  pub source : Counts before.source now.source (status ≡ SourceFault)
  pub sink : Counts before.sink now.sink (status ≡ SinkFault)
  pub device : Counts before.device now.device (status ≡ DeviceFault)
