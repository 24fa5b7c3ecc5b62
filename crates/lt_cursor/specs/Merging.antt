-- Several sources, of which the next record in the order of reading is given.
use Rattle.std.specs.Prelude.{◌≡◌, ◌⊎◌, ℕ, ◌<◌, Bool, true, List, [], ◌++◌, length, map, Option, slice_index_or}
use Rattle.std.specs.List.{All, Any, Contains, sum_by}
use Rattle.lt_rec.specs.Record.{Record}
use Rattle.lt_rec.specs.Records.{joined}
use Rattle.lt_rec.specs.declared.raw_box.RawBox.{RawBox}
use Rattle.lt_kway.specs.Heads.{Held, is_before}
use Rattle.lt_kway.specs.declared.head.Head.{Head}
use Rattle.lt_tablet.specs.declared.errors.ReadError.{ReadError}
use Rattle.lt_cursor.specs.Order.{IsInOrder, HaveDistinctKeys, arranged}
use Rattle.lt_cursor.specs.Strands.{Strand, left_of}

-- the box, the heads that are held, what is left of each source, and the sources that wait for a head
pub record Merging : Type 0 where
  pub raw_box : RawBox
  pub held : Held
  pub strands : List Strand
  pub waiting : List ℕ

-- what is left of each source in the box
abbrev pub lefts : Merging → List (List Record)
lefts m = map (left_of m.raw_box) m.strands

-- all records that are still to be given
abbrev pub all_left : List Head → List (List Record) → List Record
all_left heads sources = map (λ head. head.rec) heads ++ joined sources

-- the same in the order of reading
abbrev pub coming_of : Merging → List Record
coming_of m = arranged m.held.down (all_left m.held.heads (lefts m))

abbrev pub blocks_left : Merging → ℕ
blocks_left m = sum_by (λ s. s.blocks) m.strands

-- the places that are kept are those of sources
pub record ArePlaces (m : Merging) : Type 0 where
  pub waiting : All (λ at. at < length m.strands) m.waiting
  pub heads : All (λ head. head.source < length m.strands) m.held.heads

-- a source's head is held, and is read before all that is left of it; or nothing is left
abbrev pub IsLed : Bool → List Head → ℕ → List Record → Type 0
IsLed down heads at left = (left ≡ []) ⊎ Any (λ head. (head.source ≡ at) × All (λ r. is_before down head.rec.key r.key ≡ true) left) heads

-- all that is left is in the order of reading and has different keys, and each source is led, or waits for its head
pub record IsSound (down : Bool) (heads : List Head) (sources : List (List Record)) (waiting : List ℕ) : Type 0 where
  pub ordered : All (IsInOrder down) sources
  pub distinct : HaveDistinctKeys (all_left heads sources)
  pub led : (at : ℕ) → at < length sources → Contains waiting at ⊎ IsLed down heads at (slice_index_or sources at [])

abbrev pub IsSoundMerging : Merging → List ℕ → Type 0
IsSoundMerging m waiting = IsSound m.held.down m.held.heads (lefts m) waiting

-- What contracts see in a cursor: the records still to come, in the order of reading, the number of its blocks left, and the
-- first refusal, if there was one.
pub record Progress : Type 0 where
  pub coming : List Record
  pub blocks : ℕ
  pub refusal : Option ReadError

abbrev pub progress_of : Merging → Option ReadError → Progress
progress_of m refusal = record { coming = coming_of m; blocks = blocks_left m; refusal = refusal }
