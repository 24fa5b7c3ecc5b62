-- What a block is, and the one spelling of each.
use Rattle.std.specs.Prelude.{◌≡◌, ℕ, ◌+◌, ◌≤◌, ◌<◌, true, List, [], ◌∷◌, ◌++◌, length}
use Rattle.std.specs.List.{flat_map, AllByRecursion}
use Rattle.std.specs.Int.{w32, to_be_bytes}
use Rattle.lt_rec.specs.Bytes.{is_less}
use Rattle.lt_rec.specs.Record.{Record, IsRecord, spelled, stored_len}

-- the number of records, and the records one after the other
abbrev pub spelling : List Record → List ℕ
spelling recs = to_be_bytes w32 (length recs) ++ flat_map spelled recs

-- each key is above the one before it, and the first is above the given one; the empty key is below all others
abbrev pub Rises : List ℕ → List Record → Type 0
Rises last [] = Unit {0}
Rises last (r ∷ recs) = (is_less last r.key ≡ true) × Rises r.key recs

-- the key of the last record, or the given one
abbrev pub last_key : List ℕ → List Record → List ℕ
last_key last [] = last
last_key last (r ∷ recs) = last_key r.key recs

-- records that one block may have
pub record IsBlock (recs : List Record) : Type 0 where
  pub some : 0 < length recs
  pub lawful : AllByRecursion IsRecord recs
  pub rising : Rises [] recs
  pub small : length (spelling recs) ≤ 65536

-- where the records lie, the first of them at `at`
abbrev pub places : ℕ → List Record → List ℕ
places at [] = []
places at (r ∷ recs) = at ∷ places (at + stored_len r) recs
