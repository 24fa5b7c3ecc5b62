-- Reading a block from left to right. What breaks a rule first is named by its offset.
use Rattle.std.specs.Prelude.{◌≡◌, ℕ, zero, suc, ◌+◌, ◌^◌, Bool, ◌&&◌, ◌||◌, nat_lt, nat_le, List, [], ◌∷◌, length, take, drop, Result, Ok, Err, if◌then◌else◌}
use Rattle.std.specs.Int.{w32, w64}
use Rattle.lt_rec.specs.Bytes.{is_less}
use Rattle.lt_rec.specs.Record.{Record, stored_len, time_of}
use Rattle.lt_rec.specs.Reading.{◌>>=◌, number_at, bytes_at, ended, is_within}
use Rattle.lt_block.specs.Spelling.{places, spelling, IsBlock}

-- the record's key, which lies behind 20 bytes: it is not whole, or above the last one
abbrev pub may_follow : List ℕ → ℕ → List ℕ → Bool
may_follow last n bytes = nat_lt (length bytes) (20 + n) || is_less last (take n (drop 20 bytes))

abbrev pub is_key_len : ℕ → Bool
is_key_len n = is_within 8 4096 n

-- The key's length. A key that is whole and not above the last one is a fault of the record's first byte, so that it
-- is found before what comes later in the record.
unfoldable pub key_len_at : ℕ → List ℕ → List ℕ → Result (ℕ × List ℕ) ℕ
key_len_at at last bytes = do
  n ← number_at w32 at bytes
  if is_key_len n.0 && may_follow last n.0 bytes then Ok n else Err at

unfoldable pub body_len_at : ℕ → List ℕ → Result (ℕ × List ℕ) ℕ
body_len_at at bytes = do
  n ← number_at w32 at bytes
  if nat_le n.0 60000 then Ok n else Err at

unfoldable pub seq_at : ℕ → List ℕ → Result (ℕ × List ℕ) ℕ
seq_at at bytes = do
  n ← number_at w64 at bytes
  if nat_lt n.0 (2 ^ 62) then Ok n else Err at

unfoldable pub record_at : ℕ → List ℕ → List ℕ → Result (Record × List ℕ) ℕ
record_at at last bytes = do
  key_len ← key_len_at at last bytes
  body_len ← body_len_at (at + 4) key_len.1
  seq ← seq_at (at + 8) body_len.1
  ver ← number_at w32 (at + 16) seq.1
  key ← bytes_at key_len.0 (at + 20) ver.1
  body ← bytes_at body_len.0 (at + 20 + key_len.0) key.1
  Ok (record { key = key.0; ts = time_of key.0; seq = seq.0; ver = ver.0; body = body.0 }, body.1)

unfoldable pub records_at : ℕ → ℕ → List ℕ → List ℕ → Result (List Record × List ℕ) ℕ
records_at zero at last bytes = Ok ([], bytes)
records_at (suc n) at last bytes = do
  first ← record_at at last bytes
  others ← records_at n (at + stored_len first.0) first.0.key first.1
  Ok (first.0 ∷ others.0, others.1)

-- the number of records, of which there is one at least
unfoldable pub count_at : List ℕ → Result (ℕ × List ℕ) ℕ
count_at bytes = do
  n ← number_at w32 0 bytes
  if nat_lt 0 n.0 then Ok n else Err 0

-- all of the bytes: the records of a block, or the offset of the first fault
unfoldable pub block_at : List ℕ → Result (List Record) ℕ
block_at bytes = if nat_lt 65536 (length bytes) then Err 65536 else (do
  count ← count_at bytes
  recs ← records_at count.0 4 [] count.1
  ended (length bytes) recs)

-- where the records lie that were read
abbrev pub placed : ℕ → Result (List Record × List ℕ) ℕ → Result (List ℕ × List ℕ) ℕ
placed at read = read >>= λ x. Ok (places at x.0, x.1)

abbrev pub places_at : List ℕ → Result (List ℕ) ℕ
places_at bytes = block_at bytes >>= λ recs. Ok (places 4 recs)

-- the records of bytes that are a block
abbrev pub ok_or_none : Result (List Record) ℕ → List Record
ok_or_none (Ok recs) = recs
ok_or_none (Err at) = []

abbrev pub records_in : List ℕ → List Record
records_in bytes = ok_or_none (block_at bytes)

-- bytes that are a block, and the table of its records
pub record IsRead (bytes offsets : List ℕ) : Type 0 where
  pub read : block_at bytes ≡ Ok (records_in bytes)
  pub block : IsBlock (records_in bytes)
  pub spelled : bytes ≡ spelling (records_in bytes)
  pub placed : offsets ≡ places 4 (records_in bytes)
