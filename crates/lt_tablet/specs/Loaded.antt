-- A tablet as it is known: its listing, its index, its filter and, where the device tells them, the bytes of its file.
use Rattle.std.specs.Prelude.{◌≡◌, ◌≤◌, ◌<◌, ◌^◌, ℕ, Bool, true, ◌&&◌, nat_le, ◌↔◌, IsTrue, List, [], length, Result, Ok, Err, slice_get, Some}
use Rattle.lt_rec.specs.declared.listed.Listed.{Listed}
use Rattle.lt_rec.specs.declared.raw_box.RawBox.{RawBox}
use Rattle.lt_rec.specs.Boxes.{meets_lo, meets_hi}
use Rattle.lt_rec.specs.Record.{Record}
use Rattle.lt_rec.specs.Records.{joined}
use Rattle.lt_layout.specs.Spelling.{Entry, IsTablet, listed_totals, end_of, entries_of, filter_of, totals_of, file_of}
use Rattle.lt_layout.specs.Entries.{IsEntries}
use Rattle.lt_layout.specs.Reading.{file_at}

pub record Loaded : Type 0 where
  pub listed : Listed
  pub index : List Entry
  pub filter : List ℕ
  pub bytes : List ℕ

abbrev pub ok_or_no_blocks : Result (List (List Record)) ℕ → List (List Record)
ok_or_no_blocks (Ok blocks) = blocks
ok_or_no_blocks (Err at) = []

-- the blocks of its file, and the records of all of them
abbrev pub blocks_in : Loaded → List (List Record)
blocks_in t = ok_or_no_blocks (file_at (listed_totals t.listed) t.listed.bytes t.bytes)

abbrev pub records_in : Loaded → List Record
records_in t = joined (blocks_in t)

-- its file is one, and its index and its filter are those of the file
pub record IsTold (t : Loaded) : Type 0 where
  pub read : file_at (listed_totals t.listed) t.listed.bytes t.bytes ≡ Ok (blocks_in t)
  pub tablet : IsTablet (blocks_in t)
  pub spelled : t.bytes ≡ file_of (blocks_in t)
  pub totals : totals_of (joined (blocks_in t)) ≡ listed_totals t.listed
  pub index_is : t.index ≡ entries_of 8 (blocks_in t)
  pub filter_is : t.filter ≡ filter_of (records_in t)

-- What holds of each tablet: it has a block, its blocks lie one after the other in the file, and keys rise from each to
-- the next. Where the device tells the bytes, they are its file.
pub record IsLoaded (honest : Bool) (number size : ℕ) (t : Loaded) : Type 0 where
  pub number_is : number ≡ t.listed.file
  pub size_is : size ≡ t.listed.bytes
  pub in_range : size < 2 ^ 64
  pub some : 0 < length t.index
  pub entries : IsEntries (end_of 8 t.index) 8 [] t.index
  pub within : end_of 8 t.index ≤ size
  pub file : honest ≡ true → IsTold t

-- some timestamp from the least to the greatest one may be one of the box's
abbrev pub times_meet : RawBox → Listed → Bool
times_meet raw_box listed = nat_le raw_box.from listed.high && nat_le listed.low raw_box.to

-- the block's last key isn't below the lower bound, and its first one is below the upper
abbrev pub may_have : RawBox → Entry → Bool
may_have raw_box e = meets_lo raw_box.lo e.last && meets_hi raw_box.hi e.first

-- From one block up to another: where some timestamp may be one of the box's, exactly the blocks that may have its
-- records, else none.
pub record IsIndexRange (t : Loaded) (raw_box : RawBox) (from to : ℕ) : Type 0 where
  pub ordered : from ≤ to
  pub within : to ≤ length t.index
  pub exactly : (i : ℕ) (e : Entry) → slice_get t.index i ≡ Some e → ((from ≤ i) × (i < to)) ↔ IsTrue (times_meet raw_box t.listed && may_have raw_box e)
