-- A story: what an opening found with the files that it found it in, and since then entries of the history and notes of files.
use Rattle.std.specs.Prelude.{ℕ, Bool, false, ◌||◌, nat_eq, List, [], ◌∷◌, ◌++◌, if◌then◌else◌}
use Rattle.lt_rec.specs.Record.{Record}
use Rattle.lt_model.specs.History.{Numbered, Opening, Entry, row_entry, bound_entry, schema_entry, kept_entry, History}

-- a file that came into the list of tablets, and the records in it
pub record Noted : Type 0 where
  pub file : ℕ
  pub recs : List Record

-- where a story begins: the directory's moment, how many numbers it had lent, its ceiling, and the first free file number
pub record Began : Type 0 where
  pub moment : ℕ
  pub lends : ℕ
  pub ceiling : ℕ
  pub free : ℕ

-- an entry of the history; a file that came into the list of tablets; or that file numbers were free from this one on
pub data Element : Type 0 where
  entry : Entry → Element
  held : Noted → Element
  free : ℕ → Element

-- the opening with its files, and the elements since
pub record Story : Type 0 where
  pub opening : Opening
  pub loaded : List Noted
  pub began : Began
  pub since : List Element

abbrev pub entries_in : List Element → List Entry
entries_in [] = []
entries_in (entry e ∷ more) = e ∷ entries_in more
entries_in (held note ∷ more) = entries_in more
entries_in (free number ∷ more) = entries_in more

abbrev pub noted_in : List Element → List Noted
noted_in [] = []
noted_in (entry e ∷ more) = noted_in more
noted_in (held note ∷ more) = note ∷ noted_in more
noted_in (free number ∷ more) = noted_in more

-- the history is the story without its notes
abbrev pub history_of : Story → History
history_of s = record { opening = s.opening; entries = entries_in s.since }

abbrev pub grown : Story → List Element → Story
grown s more = record { opening = s.opening; loaded = s.loaded; began = s.began; since = s.since ++ more }

-- the records that are noted of a file, or none
abbrev pub records_noted : List Noted → ℕ → List Record
records_noted [] file = []
records_noted (note ∷ notes) file = if nat_eq note.file file then note.recs else records_noted notes file

abbrev pub is_noted : List Noted → ℕ → Bool
is_noted [] file = false
is_noted (note ∷ notes) file = nat_eq note.file file || is_noted notes file

abbrev pub notes_of : Story → List Noted
notes_of s = s.loaded ++ noted_in s.since

abbrev pub records_of : Story → ℕ → List Record
records_of s file = records_noted (notes_of s) file

-- a row that an entry added, and the tablet in memory that took it
pub record Placed : Type 0 where
  pub numbered : Numbered
  pub tablet : ℕ

abbrev pub placed_in : List Entry → List Placed
placed_in [] = []
placed_in (row_entry numbered tablet ∷ entries) = record { numbered = numbered; tablet = tablet } ∷ placed_in entries
placed_in (bound_entry bound ∷ entries) = placed_in entries
placed_in (schema_entry change ∷ entries) = placed_in entries
placed_in (kept_entry number ∷ entries) = placed_in entries
