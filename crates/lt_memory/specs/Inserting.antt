-- What a record does to the tablets in memory.
use Rattle.std.specs.Prelude.{ℕ, ◌+◌, ◌≡◌, ◌≤◌, ◌<◌, ◌⊎◌, Bool, true, false, not, ◌&&◌, nat_eq, nat_le, if◌then◌else◌, List, [], ◌∷◌, ◌++◌, map, length, slice_index_or, slice_set, Contains}
use Rattle.lt_rec.specs.Periods.{Stretch}
use Rattle.lt_rec.specs.Record.{Record, stored_len}
use Rattle.lt_mem.specs.Rising.{Gains, all_stored}
use Rattle.lt_state.specs.State.{Filled}
use Rattle.lt_memory.specs.Tablets.{most_bytes}

-- the tablet takes rows of the period
abbrev pub is_open : Stretch → Filled → Bool
is_open period tablet = not tablet.frozen && (nat_eq tablet.period.start period.start && nat_eq tablet.period.len period.len)

-- so many bytes more are no more than a tablet may have
abbrev pub has_room : ℕ → Filled → Bool
has_room len tablet = nat_le (all_stored tablet.recs + len) most_bytes

-- it takes rows of the period, and has room for so many bytes
abbrev pub takes : Stretch → ℕ → Filled → Bool
takes period len tablet = is_open period tablet && has_room len tablet

-- frozen as full, where it takes rows of the period
abbrev pub filled_up : Stretch → Filled → Filled
filled_up period tablet = if is_open period tablet then record tablet { full = true; frozen = true } else tablet

-- a new tablet that has one record
abbrev pub begun : ℕ → Stretch → Record → ℕ → Filled
begun number period rec now = record { number = number; period = period; recs = rec ∷ []; since = now; full = false; frozen = false }

-- the list has the tablet at this place
pub record IsPlaced (tablets : List Filled) (place : ℕ) (tablet : Filled) : Type 0 where
  pub held : place < length tablets
  pub is : slice_index_or tablets place tablet ≡ tablet

-- A tablet of the period, which takes rows and has room for the record, has it among its others; all else is as before.
pub record Grew (old new : List Filled) (period : Stretch) (number : ℕ) (rec : Record) : Type 0 where
  pub place : ℕ
  pub tablet : Filled
  pub recs : List Record
  pub placed : IsPlaced old place tablet
  pub number_is : tablet.number ≡ number
  pub opened : is_open period tablet ≡ true
  pub room : has_room (stored_len rec) tablet ≡ true
  pub gains : Gains tablet.recs recs rec
  pub is : new ≡ slice_set old place (record tablet { recs = recs })

-- No tablet of the period that takes rows had room for the record. They are full now, and behind all stands a new one that has
-- the record alone.
pub record Began (old new : List Filled) (period : Stretch) (number : ℕ) (rec : Record) (now : ℕ) : Type 0 where
  pub full : (tablet : Filled) → Contains old tablet → is_open period tablet ≡ true → has_room (stored_len rec) tablet ≡ false
  pub is : new ≡ map (filled_up period) old ++ begun number period rec now ∷ []

-- a tablet of this number took the record: one that was there, or the next one
abbrev pub Took : List Filled → List Filled → ℕ → Stretch → ℕ → Record → ℕ → Type 0
Took old new next period number rec now = Grew old new period number rec ⊎ ((number ≡ next) × Began old new period number rec now)
