-- A record: a row as bytes, with its number and the version of the schema that it was written under.
use Rattle.std.specs.Prelude.{◌≡◌, ℕ, ◌+◌, ◌-◌, ◌^◌, ◌<◌, ◌≤◌, List, ◌++◌, length, take, drop}
use Rattle.std.specs.Int.{w32, w64, to_be_bytes, from_be_bytes}

pub record Record : Type 0 where
  pub key : List ℕ
  pub ts : ℕ
  pub seq : ℕ
  pub ver : ℕ
  pub body : List ℕ

-- the key without its last eight bytes
abbrev pub stem_of : List ℕ → List ℕ
stem_of key = take (length key - 8) key

-- the key's last eight bytes, the highest first: its timestamp
abbrev pub time_of : List ℕ → ℕ
time_of key = from_be_bytes w64 (drop (length key - 8) key)

-- what each record keeps
pub record IsRecord (r : Record) : Type 0 where
  pub long_enough : 8 ≤ length r.key
  pub short_enough : length r.key ≤ 4096
  pub timed : drop (length r.key - 8) r.key ≡ to_be_bytes w64 r.ts
  pub moment : r.ts < 2 ^ 64
  pub numbered : r.seq < 2 ^ 62
  pub version : r.ver < 2 ^ 32
  pub small_body : length r.body ≤ 60000

-- the bytes that a record takes where it is stored: two lengths, number and version, and then its key and body
abbrev pub stored_len : Record → ℕ
stored_len r = 20 + length r.key + length r.body

-- the bytes of a record: the two lengths, the number, the version, the key, the body
abbrev pub spelled : Record → List ℕ
spelled r = to_be_bytes w32 (length r.key) ++ (to_be_bytes w32 (length r.body) ++ (to_be_bytes w64 r.seq ++ (to_be_bytes w32 r.ver ++ (r.key ++ r.body))))

abbrev pub made : List ℕ → ℕ → ℕ → List ℕ → Record
made key seq ver body = record { key = key; ts = time_of key; seq = seq; ver = ver; body = body }

-- how many bytes of key the bytes of a record say
abbrev pub key_len_in : List ℕ → ℕ
key_len_in bytes = from_be_bytes w32 (take 4 bytes)

-- the record that the bytes spell
abbrev pub stored_record : List ℕ → Record
stored_record bytes = made (take (key_len_in bytes) (drop 20 bytes)) (from_be_bytes w64 (take 8 (drop 8 bytes))) (from_be_bytes w32 (take 4 (drop 16 bytes))) (drop (key_len_in bytes) (drop 20 bytes))

-- the bytes of a record
pub record IsStored (bytes : List ℕ) : Type 0 where
  pub whole : 20 + key_len_in bytes ≤ length bytes
  pub lawful : IsRecord (stored_record bytes)
  pub spelling : spelled (stored_record bytes) ≡ bytes

-- bytes that begin with those of a record
pub record BeginsWith (bytes : List ℕ) : Type 0 where
  pub rec : Record
  pub rest : List ℕ
  pub lawful : IsRecord rec
  pub is : bytes ≡ spelled rec ++ rest
