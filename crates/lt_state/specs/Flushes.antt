-- Which tablets in memory a flush takes, and the files that they become.
use Rattle.std.specs.Prelude.{ℕ, ◌≡◌, ◌≤◌, ◌<◌, ◌⊎◌, true, List, Contains}
use Rattle.lt_io.specs.Directory.{Contents}
use Rattle.lt_rec.specs.Record.{Record}
use Rattle.lt_rec.specs.Closure.{has}
use Rattle.lt_rec.specs.declared.listed.Listed.{Listed}
use Rattle.lt_model.specs.History.{History}
use Rattle.lt_model.specs.Readings.{next, kept}
use Rattle.lt_trace.specs.Elements.{Placed, placed_in}
use Rattle.lt_trace.specs.Records.{HasFile, IsOn}
use Rattle.lt_state.specs.State.{Filled, InMemory}

-- A job, when it was given out: each row from the settled number on and below the job's number is in one of its tablets.
pub record IsJobAt (h : History) (parts : List ℕ) (number : ℕ) : Type 0 where
  pub given : number ≤ next h
  pub covers : (placed : Placed) → Contains (placed_in h.entries) placed → kept h ≤ placed.numbered.seq → placed.numbered.seq < number → has parts placed.tablet ≡ true

-- A job, when it is committed: in addition, each row from the settled number on of its tablets is below its number.
pub record TakesAlong (h : History) (parts : List ℕ) (number : ℕ) : Type 0 where
  pub no_lower : kept h ≤ number
  pub given : number ≤ next h
  pub covers : (placed : Placed) → Contains (placed_in h.entries) placed → kept h ≤ placed.numbered.seq → placed.numbered.seq < number → has parts placed.tablet ≡ true
  pub below : (placed : Placed) → Contains (placed_in h.entries) placed → kept h ≤ placed.numbered.seq → has parts placed.tablet ≡ true → placed.numbered.seq < number

-- one of these tablets in memory has the record
pub record Goes (memory : List Filled) (parts : List ℕ) (rec : Record) : Type 0 where
  pub number : ℕ
  pub part : has parts number ≡ true
  pub held : InMemory memory number rec

-- the new list has the records of the old one and of the tablets that go, and no others
pub record Joins (memory : List Filled) (parts : List ℕ) (old_recs : ℕ → List Record) (olds : List Listed) (new_recs : ℕ → List Record) (news : List Listed) : Type 0 where
  pub from : (rec : Record) → IsOn new_recs news rec → IsOn old_recs olds rec ⊎ Goes memory parts rec
  pub old : (rec : Record) → IsOn old_recs olds rec → IsOn new_recs news rec
  pub gone : (rec : Record) → Goes memory parts rec → IsOn new_recs news rec

-- the file has the records of one of these tablets in memory
pub record IsFlushed (memory : List Filled) (parts : List ℕ) (files : Contents) (recs : ℕ → List Record) (listed : Listed) : Type 0 where
  pub tablet : Filled
  pub held : Contains memory tablet
  pub part : has parts tablet.number ≡ true
  pub records : recs listed.file ≡ tablet.recs
  pub file : HasFile files listed (recs listed.file)

-- the tablets that are left in memory: all but those that went
pub record Leaves (memory left : List Filled) (parts : List ℕ) : Type 0 where
  pub was : (number : ℕ) (rec : Record) → InMemory left number rec → InMemory memory number rec
  pub gone : (number : ℕ) (rec : Record) → InMemory left number rec → has parts number ≡ true → ⊥
  pub stays : (number : ℕ) (rec : Record) → InMemory memory number rec → (has parts number ≡ true) ⊎ InMemory left number rec

-- one tablet took one more record, or is new and has it alone
pub record AddsRecord (memory left : List Filled) (tablet : ℕ) (rec : Record) : Type 0 where
  pub was : (number : ℕ) (other : Record) → InMemory left number other → InMemory memory number other ⊎ ((number ≡ tablet) × (other ≡ rec))
  pub stays : (number : ℕ) (other : Record) → InMemory memory number other → InMemory left number other
  pub new : InMemory left tablet rec
