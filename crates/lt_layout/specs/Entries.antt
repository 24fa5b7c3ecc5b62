-- What an index tells of its blocks: they lie one after the other, and keys rise from each to the next.
use Rattle.std.specs.Prelude.{◌≡◌, ℕ, ◌+◌, ◌<◌, ◌≤◌, true, false, List, [], ◌∷◌, length}
use Rattle.lt_rec.specs.Bytes.{is_less}
use Rattle.lt_layout.specs.Spelling.{Entry}

pub record IsKey (key : List ℕ) : Type 0 where
  pub long_enough : 8 ≤ length key
  pub short_enough : length key ≤ 4096

-- An entry that `left` others follow. Its block begins at `start`, its first key is above the last one before, and its
-- last key isn't below its first. The last block ends at `index`.
pub record IsEntry (index left start : ℕ) (last : List ℕ) (e : Entry) : Type 0 where
  pub placed : e.offset ≡ start
  pub long_enough : 32 ≤ e.len
  pub short_enough : e.len ≤ 65536
  pub ends : left ≡ 0 → start + e.len ≡ index
  pub some : 0 < e.count
  pub above : is_less last e.first ≡ true
  pub ordered : is_less e.last e.first ≡ false
  pub first : IsKey e.first
  pub final : IsKey e.last

-- entries of blocks that lie one after the other from `start` on
abbrev pub IsEntries : (index start : ℕ) → List ℕ → List Entry → Type 0
IsEntries index start last [] = Unit {0}
IsEntries index start last (e ∷ es) = IsEntry index (length es) start last e × IsEntries index (start + e.len) e.last es
