-- What goes to disk, and what is there: the tablets that a flush takes along, and the rows below the kept number.
use Rattle.std.specs.Prelude.{ℕ, ◌≡◌, ◌<◌, ◌≤◌, ◌≢◌, ◌↔◌, true, ◌&&◌, List, [], map, filter, nat_le, nat_lt, Contains, Option, Some, None}
use Rattle.std.specs.List.Sorted.{IsStrictlyIncreasing}
use Rattle.lt_rec.specs.Closure.{has, IsClosure}
use Rattle.lt_model.specs.History.{Numbered, History}
use Rattle.lt_model.specs.Readings.{Note, rows, next, low, kept, since, time_in, in_memory, IsInMemory}

-- the tablets in memory, one for each of their rows, in the rows' order
abbrev pub tablets_of_rows : History → List ℕ
tablets_of_rows h = map (λ note. note.tablet) (in_memory h)

-- The tablets that a flush takes along, rising: those that have to go with the one that it names, or all in memory.
abbrev pub AreFlushed : History → Option ℕ → List ℕ → Type 0
AreFlushed h (Some tablet) tablets = IsInMemory h tablet × IsClosure (tablets_of_rows h) tablet tablets
AreFlushed h None tablets = IsStrictlyIncreasing tablets × ((tablet : ℕ) → (has tablets tablet ≡ true) ↔ IsInMemory h tablet)

-- Below this number all is durable once these tablets are: it is no lower than before and above each of their rows, and
-- where all tablets go, no lower than the next number.
pub record IsDurable (h : History) (which : Option ℕ) (tablets : List ℕ) (kept_after : ℕ) : Type 0 where
  pub no_lower : kept h ≤ kept_after
  pub above_rows : (note : Note) → Contains (in_memory h) note → has tablets note.tablet ≡ true → note.seq < kept_after
  pub above_all : which ≡ None → next h ≤ kept_after

-- the rows on disk: durable, and unexpired so far
abbrev pub on_disk : History → List Numbered
on_disk h = filter (λ numbered. nat_lt numbered.seq (kept h) && nat_le (low h) (time_in h numbered)) (rows h)

-- there are rows on disk, and none is unexpired at that moment
pub record AllExpire (h : History) (now : ℕ) : Type 0 where
  pub some : on_disk h ≢ []
  pub all : (numbered : Numbered) → Contains (on_disk h) numbered → time_in h numbered < since h now
