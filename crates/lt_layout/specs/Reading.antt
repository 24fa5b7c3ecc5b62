-- Reading a tablet file. Seven checks are made one after the other; the first that fails names an offset in the file.
use Rattle.std.specs.Prelude.{◌≡◌, ℕ, zero, suc, ◌+◌, ◌-◌, Bool, not, ◌&&◌, ◌||◌, ◌==◌, nat_lt, nat_le, nat_eq, min, List, [], ◌∷◌, length, take, drop, Result, Ok, Err, if◌then◌else◌}
use Rattle.std.specs.Int.{w32, w64, from_be_bytes}
use Rattle.std.specs.Cmp.Lexicographic.{pointwise}
use Rattle.lt_rec.specs.Bytes.{is_less}
use Rattle.lt_rec.specs.Record.{Record, stored_len, stem_of, time_of}
use Rattle.lt_rec.specs.Records.{joined}
use Rattle.lt_rec.specs.Reading.{◌>>=◌, number_at, bytes_at, ended, asked, holds, is_within}
use Rattle.lt_block.specs.Reading.{is_key_len, record_at}
use Rattle.lt_layout.specs.Spelling.{Entry, Totals, Parts, header, mark, footer_numbers, totals_of, filter_of}

-- ---- 1. the length

-- Where the footer begins, in a file of so many bytes of which so many are listed: it has 88 bytes. The least file has 170.
abbrev pub footer_place : ℕ → ℕ → Result ℕ ℕ
footer_place listed len = if len == listed then (if nat_lt len 170 then Err 0 else Ok (len - 88)) else Err (min len listed)

-- ---- 2. the footer

-- the expected numbers, one after the other
abbrev pub numbers_at : List ℕ → ℕ → List ℕ → Result (List ℕ) ℕ
numbers_at [] at bytes = Ok bytes
numbers_at (n ∷ ns) at bytes = asked (nat_eq n) at (number_at w64 at bytes) >>= λ x. numbers_at ns (at + 8) x.1

unfoldable pub footer_at : Totals → ℕ → List ℕ → Result Parts ℕ
footer_at t foot bytes = do
  index ← asked (λ n. nat_lt 8 n && nat_le n foot) foot (number_at w64 foot bytes)
  blocks ← asked (λ n. nat_lt 0 n) (foot + 8) (number_at w64 (foot + 8) index.1)
  filter ← asked (λ n. nat_lt index.0 n && nat_le n foot) (foot + 16) (number_at w64 (foot + 16) blocks.1)
  filter_len ← asked (nat_eq (foot - filter.0)) (foot + 24) (number_at w64 (foot + 24) filter.1)
  rest ← numbers_at (footer_numbers t) (foot + 32) filter_len.1
  marked ← holds (pointwise nat_eq rest mark) (foot + 80)
  Ok (record { index = index.0; blocks = blocks.0; filter = filter.0; filter_len = filter_len.0 })

-- ---- 3. the header

abbrev pub header_at : List ℕ → Result (Unit {0}) ℕ
header_at bytes = holds (pointwise nat_eq (take 8 bytes) header) 0

-- ---- 4. the index

-- a length and the key behind it are one field
unfoldable pub key_at : ℕ → List ℕ → Result (List ℕ × List ℕ) ℕ
key_at at bytes = asked is_key_len at (number_at w32 at bytes) >>= λ n. bytes_at n.0 at n.1

-- A block's length. The last one, behind which none is left, ends where the index begins.
abbrev pub is_len : (index left start : ℕ) → ℕ → Bool
is_len index left start n = (nat_le 32 n && nat_le n 65536) && (nat_lt 0 left || (start + n == index))

-- An entry at offset `at`, whose block begins where the one before ends, at `start`, and whose first key is above the
-- last one before.
unfoldable pub entry_at : (index left at start : ℕ) → (last bytes : List ℕ) → Result (Entry × List ℕ) ℕ
entry_at index left at start last bytes = do
  offset ← asked (nat_eq start) at (number_at w64 at bytes)
  len ← asked (is_len index left start) (at + 8) (number_at w32 (at + 8) offset.1)
  count ← asked (λ n. nat_lt 0 n) (at + 12) (number_at w32 (at + 12) len.1)
  first ← asked (is_less last) (at + 16) (key_at (at + 16) count.1)
  final ← asked (λ key. not (is_less key first.0)) (at + 20 + length first.0) (key_at (at + 20 + length first.0) first.1)
  Ok (record { offset = offset.0; len = len.0; count = count.0; first = first.0; last = final.0 }, final.1)

-- how many bytes an entry has
abbrev pub entry_len : Entry → ℕ
entry_len e = 24 + length e.first + length e.last

unfoldable pub entries_at : (index n at start : ℕ) → (last bytes : List ℕ) → Result (List Entry × List ℕ) ℕ
entries_at index zero at start last bytes = Ok ([], bytes)
entries_at index (suc n) at start last bytes = do
  first ← entry_at index n at start last bytes
  others ← entries_at index n (at + entry_len first.0) (start + first.0.len) first.0.last first.1
  Ok (first.0 ∷ others.0, others.1)

-- the entries end where the filter begins
abbrev pub index_at : Parts → List ℕ → Result (List Entry) ℕ
index_at p bytes = entries_at p.index p.blocks p.index 8 [] bytes >>= λ x. ended p.filter x

-- ---- 5. the blocks

-- What the tablet asks of a key: its timestamp is within the bounds, and the first and the last key of a block are those
-- of its entry. The first one has none before it, and behind the last one none is left.
abbrev pub suits_key : Totals → Entry → ℕ → List ℕ → List ℕ → Bool
suits_key t e left last key = is_within t.low t.high (time_of key) && ((nat_lt 0 (length last) || pointwise nat_eq key e.first) && (nat_lt 0 left || pointwise nat_eq key e.last))

-- The bytes of a record begin with its key's length, and have its number from 8 on and its key from 20 on. What is not
-- whole isn't asked of here, and is found later.
abbrev pub suits_bytes : Totals → Entry → ℕ → List ℕ → ℕ → List ℕ → Bool
suits_bytes t e left last n bytes =
    (nat_lt (length bytes) 16 || is_within t.first t.last (from_be_bytes w64 (take 8 (drop 8 bytes)))) && (nat_lt (length bytes) (20 + n) || suits_key t e left last (take n (drop 20 bytes)))

-- A record in its tablet. What the tablet asks of it is a matter of its first byte, so that it is found before what comes
-- later in the record.
unfoldable pub own_record_at : Totals → Entry → (left at : ℕ) → (last bytes : List ℕ) → Result (Record × List ℕ) ℕ
own_record_at t e left at last bytes = do
  n ← asked is_key_len at (number_at w32 at bytes)
  suited ← holds (suits_bytes t e left last n.0 bytes) at
  record_at at last bytes

-- the two keys are as long, and the same but for their timestamps
abbrev pub are_alike : List ℕ → List ℕ → Bool
are_alike last key = nat_eq (length last) (length key) && pointwise nat_eq (stem_of last) (stem_of key)

-- what was seen of a record that was read of so many bytes: its key, its timestamp and number, and the bytes after it
pub record Sees (read : Result (Record × List ℕ) ℕ) (size : ℕ) (key : List ℕ) (ts seq : ℕ) (rest : List ℕ) : Type 0 where
  pub rec : Record
  pub read_is : read ≡ Ok (rec, rest)
  pub key_is : rec.key ≡ key
  pub ts_is : rec.ts ≡ ts
  pub seq_is : rec.seq ≡ seq
  pub len : stored_len rec + length rest ≡ size

unfoldable pub own_records_at : Totals → Entry → (n at : ℕ) → (last bytes : List ℕ) → Result (List Record × List ℕ) ℕ
own_records_at t e zero at last bytes = Ok ([], bytes)
own_records_at t e (suc n) at last bytes = do
  first ← own_record_at t e n at last bytes
  others ← own_records_at t e n (at + stored_len first.0) first.0.key first.1
  Ok (first.0 ∷ others.0, others.1)

-- the records of an entry's block, with offsets in the block
unfoldable pub own_block_at : Totals → Entry → List ℕ → Result (List Record) ℕ
own_block_at t e bytes = do
  count ← asked (nat_eq e.count) 0 (number_at w32 0 bytes)
  recs ← own_records_at t e e.count 4 [] count.1
  ended (length bytes) recs

-- offsets that count from `start` on
abbrev pub moved : {A : Type 0} → ℕ → Result A ℕ → Result A ℕ
moved start (Ok x) = Ok x
moved start (Err at) = Err (start + at)

unfoldable pub blocks_at : Totals → List Entry → List ℕ → Result (List (List Record)) ℕ
blocks_at t [] bytes = Ok []
blocks_at t (e ∷ es) bytes = do
  recs ← moved e.offset (own_block_at t e (take e.len bytes))
  others ← blocks_at t es (drop e.len bytes)
  Ok (recs ∷ others)

-- ---- 6. the totals

abbrev pub totals_at : ℕ → Totals → Totals → Result (Unit {0}) ℕ
totals_at foot t found =
    holds (found.rows == t.rows) (foot + 32) >>= λ _. holds (found.low == t.low) (foot + 40) >>= λ _. holds (found.high == t.high) (foot + 48) >>= λ _. holds (found.first == t.first) (foot + 56) >>= λ _. holds (found.last == t.last) (foot + 64)

-- ---- 7. the filter

-- the same bytes; else the first that differs, or where one of them ends
abbrev pub same_at : ℕ → List ℕ → List ℕ → Result (Unit {0}) ℕ
same_at at [] [] = Ok tt
same_at at [] (y ∷ ys) = Err at
same_at at (x ∷ xs) [] = Err at
same_at at (x ∷ xs) (y ∷ ys) = if x == y then same_at (suc at) xs ys else Err at

abbrev pub filter_at : ℕ → Parts → List ℕ → List ℕ → Result (Unit {0}) ℕ
filter_at foot p bytes wanted = holds (p.filter_len == length wanted) (foot + 24) >>= λ _. same_at p.filter bytes wanted

-- ---- all of it

-- the bytes from one offset up to another
abbrev pub between : ℕ → ℕ → List ℕ → List ℕ
between from to bytes = take (to - from) (drop from bytes)

-- the blocks of a file that is listed with these totals and this length; or the offset of the first fault
unfoldable pub file_at : Totals → ℕ → List ℕ → Result (List (List Record)) ℕ
file_at t listed bytes = do
  foot ← footer_place listed (length bytes)
  p ← footer_at t foot (drop foot bytes)
  headed ← header_at bytes
  entries ← index_at p (between p.index p.filter bytes)
  blocks ← blocks_at t entries (drop 8 bytes)
  summed ← totals_at foot t (totals_of (joined blocks))
  filtered ← filter_at foot p (between p.filter foot bytes) (filter_of (joined blocks))
  Ok blocks
