-- What the tablets in memory are, by the history.
use Rattle.std.specs.Prelude.{ℕ, ◌≡◌, ◌≢◌, ◌≤◌, List, [], map, Contains}
use Rattle.std.specs.List.Sorted.{IsStrictlyIncreasing}
use Rattle.lt_rec.specs.Periods.{InPeriod}
use Rattle.lt_rec.specs.Record.{Record}
use Rattle.lt_model.specs.History.{History}
use Rattle.lt_model.specs.Readings.{kept, schemas}
use Rattle.lt_trace.specs.Elements.{Placed, placed_in}
use Rattle.lt_trace.specs.Records.{IsRecordOf}
use Rattle.lt_state.specs.State.{Filled, InMemory}

-- the record is that of a row from the settled number on, which went to this tablet
pub record IsPlaced (h : History) (tablet : ℕ) (rec : Record) : Type 0 where
  pub placed : Placed
  pub among : Contains (placed_in h.entries) placed
  pub unsettled : kept h ≤ placed.numbered.seq
  pub tablet_is : placed.tablet ≡ tablet
  pub is : IsRecordOf (schemas h) rec placed.numbered

-- the tablet that took the row is in memory, with a record of it
pub record IsHeld (h : History) (memory : List Filled) (placed : Placed) : Type 0 where
  pub rec : Record
  pub held : InMemory memory placed.tablet rec
  pub is : IsRecordOf (schemas h) rec placed.numbered

-- the tablets in memory have the rows from the settled number on, each in the tablet that took it, and no others
pub record IsMemory (h : History) (memory : List Filled) : Type 0 where
  pub each : (tablet : ℕ) (rec : Record) → InMemory memory tablet rec → IsPlaced h tablet rec
  pub all : (placed : Placed) → Contains (placed_in h.entries) placed → kept h ≤ placed.numbered.seq → IsHeld h memory placed

-- the tablets rise by number, none is empty, and each record lies in its tablet's period
pub record AreTablets (memory : List Filled) : Type 0 where
  pub rising : IsStrictlyIncreasing (map (λ t. t.number) memory)
  pub some : (tablet : Filled) → Contains memory tablet → tablet.recs ≢ []
  pub within : (tablet : Filled) (rec : Record) → Contains memory tablet → Contains tablet.recs rec → InPeriod tablet.period rec.ts
