-- What a tablet file is, and the one spelling of each.
use Rattle.std.specs.Prelude.{ℕ, ◌+◌, ◌<◌, Bool, true, not, List, [], ◌∷◌, ◌++◌, length, fold, min, max, nat_eq, Option, Some, None, if◌then◌else◌}
use Rattle.std.specs.List.{flat_map, AllByRecursion}
use Rattle.std.specs.Int.{w32, w64, to_be_bytes}
use Rattle.std.specs.Cmp.Lexicographic.{pointwise}
use Rattle.lt_rec.specs.declared.listed.Listed.{Listed}
use Rattle.lt_rec.specs.Record.{Record, stem_of}
use Rattle.lt_rec.specs.Records.{joined}
use Rattle.lt_bloom.specs.Hash.{hash_of}
use Rattle.lt_bloom.specs.Filter.{filter_bytes}
use Rattle.lt_block.specs.Spelling.{spelling, Rises, last_key, IsBlock}

-- blocks that one file may have: there is one, and keys rise from each record to the next, also over a block's end
pub record IsTablet (blocks : List (List Record)) : Type 0 where
  pub some : 0 < length blocks
  pub each : AllByRecursion IsBlock blocks
  pub rising : Rises [] (joined blocks)

-- "LTTABLE1"
abbrev pub header : List ℕ
header = 76 ∷ 84 ∷ 84 ∷ 65 ∷ 66 ∷ 76 ∷ 69 ∷ 49 ∷ []

-- "LTTABEND"
abbrev pub mark : List ℕ
mark = 76 ∷ 84 ∷ 84 ∷ 65 ∷ 66 ∷ 69 ∷ 78 ∷ 68 ∷ []

-- ---- the index

-- a block: where it lies in the file, how long it is, how many records it has, its first and last keys
pub record Entry : Type 0 where
  pub offset : ℕ
  pub len : ℕ
  pub count : ℕ
  pub first : List ℕ
  pub last : List ℕ

abbrev pub first_key : List Record → List ℕ
first_key [] = []
first_key (r ∷ recs) = r.key

abbrev pub entry_of : ℕ → List Record → Entry
entry_of at recs = record { offset = at; len = length (spelling recs); count = length recs; first = first_key recs; last = last_key [] recs }

-- where the last of the blocks ends
abbrev pub end_of : ℕ → List Entry → ℕ
end_of start [] = start
end_of start (e ∷ es) = end_of (start + e.len) es

-- the entries of blocks that lie one after the other, the first of them at `at`
abbrev pub entries_of : ℕ → List (List Record) → List Entry
entries_of at [] = []
entries_of at (recs ∷ blocks) = entry_of at recs ∷ entries_of (at + length (spelling recs)) blocks

-- a key in the index: its length and its bytes
abbrev pub key_spelled : List ℕ → List ℕ
key_spelled key = to_be_bytes w32 (length key) ++ key

abbrev pub entry_spelled : Entry → List ℕ
entry_spelled e = to_be_bytes w64 e.offset ++ (to_be_bytes w32 e.len ++ (to_be_bytes w32 e.count ++ (key_spelled e.first ++ key_spelled e.last)))

-- ---- the filter

-- there is no record before, or its stem is another one
abbrev pub differs : Option (List ℕ) → List ℕ → Bool
differs None stem = true
differs (Some before) stem = not (pointwise nat_eq before stem)

-- a hash for each record whose stem differs from that of the record before it
abbrev pub hashes_from : Option (List ℕ) → List Record → List ℕ
hashes_from before [] = []
hashes_from before (r ∷ recs) = (if differs before (stem_of r.key) then hash_of (stem_of r.key) ∷ [] else []) ++ hashes_from (Some (stem_of r.key)) recs

abbrev pub filter_of : List Record → List ℕ
filter_of recs = filter_bytes (hashes_from None recs)

-- ---- the footer

-- of all records: how many they are, their least and greatest timestamps, their least and greatest numbers
pub record Totals : Type 0 where
  pub rows : ℕ
  pub low : ℕ
  pub high : ℕ
  pub first : ℕ
  pub last : ℕ

abbrev pub least : (Record → ℕ) → List Record → ℕ
least f [] = 0
least f (r ∷ recs) = fold (λ n x. min n (f x)) (f r) recs

abbrev pub greatest : (Record → ℕ) → List Record → ℕ
greatest f [] = 0
greatest f (r ∷ recs) = fold (λ n x. max n (f x)) (f r) recs

abbrev pub totals_of : List Record → Totals
totals_of recs = record { rows = length recs; low = least (λ r. r.ts) recs; high = greatest (λ r. r.ts) recs; first = least (λ r. r.seq) recs; last = greatest (λ r. r.seq) recs }

-- what a listing says of its file's records
abbrev pub listed_totals : Listed → Totals
listed_totals listed = record { rows = listed.rows; low = listed.low; high = listed.high; first = listed.first; last = listed.last }

-- where the parts lie: the index, how many entries it has, the filter, how long it is
pub record Parts : Type 0 where
  pub index : ℕ
  pub blocks : ℕ
  pub filter : ℕ
  pub filter_len : ℕ

-- the six numbers behind the parts' places: the five totals, and that nothing is packed
abbrev pub footer_numbers : Totals → List ℕ
footer_numbers t = t.rows ∷ t.low ∷ t.high ∷ t.first ∷ t.last ∷ 0 ∷ []

abbrev pub numbers : List ℕ → List ℕ
numbers ns = flat_map (to_be_bytes w64) ns

abbrev pub footer_spelled : Parts → Totals → List ℕ
footer_spelled p t = to_be_bytes w64 p.index ++ (to_be_bytes w64 p.blocks ++ (to_be_bytes w64 p.filter ++ (to_be_bytes w64 p.filter_len ++ (numbers (footer_numbers t) ++ mark))))

-- ---- the file

abbrev pub blocks_spelled : List (List Record) → List ℕ
blocks_spelled blocks = flat_map spelling blocks

abbrev pub index_spelled : List (List Record) → List ℕ
index_spelled blocks = flat_map entry_spelled (entries_of 8 blocks)

abbrev pub parts_of : List (List Record) → Parts
parts_of blocks =
    let index : ℕ = 8 + length (blocks_spelled blocks) in
    record { index = index; blocks = length blocks; filter = index + length (index_spelled blocks); filter_len = length (filter_of (joined blocks)) }

abbrev pub file_of : List (List Record) → List ℕ
file_of blocks = header ++ (blocks_spelled blocks ++ (index_spelled blocks ++ (filter_of (joined blocks) ++ footer_spelled (parts_of blocks) (totals_of (joined blocks)))))
