-- A filter over a list of hashes: which bits are set, and which hashes it admits.
use Rattle.std.specs.Prelude.{◌≡◌, ℕ, zero, suc, ◌+◌, ◌*◌, ◌/◌, ◌%◌, ◌^◌, ◌<◌, Bool, ◌==◌, List, length, map, slice_index, if◌then◌else◌}
use Rattle.std.specs.Int.{w64, rotate_left, bit_at}
use Rattle.std.specs.Prelude.{bit_or}
use Rattle.std.specs.List.{list_any, list_all, range_with_len}

-- the bytes of a filter over n hashes: ten bits a hash, rounded up to whole bytes
abbrev pub bytes_for : ℕ → ℕ
bytes_for n = (10 * n + 7) / 8

-- what lies between two probes of a hash: the hash with its halves exchanged and its lowest bit set
abbrev pub stride_of : ℕ → ℕ
stride_of hash = bit_or (rotate_left w64 hash 32) 1

-- the i-th probe of a hash, in a filter of so many bits
abbrev pub place : ℕ → ℕ → ℕ → ℕ
place bits hash i = (hash + i * stride_of hash) % 2 ^ 64 % bits

-- one of the first k probes of the hash is bit p
abbrev pub is_among : ℕ → ℕ → ℕ → ℕ → Bool
is_among k bits hash p = list_any (λ i. place bits hash i == p) (range_with_len 0 k)

-- one of the seven probes of the hash is bit p
unfoldable pub is_place : ℕ → ℕ → ℕ → Bool
is_place bits hash p = is_among 7 bits hash p

-- bit p of a run of bytes is the bit of value 2^(p mod 8) in byte p / 8
abbrev pub is_set : List ℕ → ℕ → Bool
is_set bytes p = bit_at (slice_index bytes (p / 8)) (p % 8) == 1

-- the number of n bits in which bit i is set where the test says so
abbrev pub number_of : (ℕ → Bool) → ℕ → ℕ
number_of test zero = 0
number_of test (suc n) = (if test n then 1 else 0) * 2 ^ n + number_of test n

-- the bit is probed by one of the hashes
abbrev pub is_probed : List ℕ → ℕ → Bool
is_probed hashes p = list_any (λ hash. is_place (8 * bytes_for (length hashes)) hash p) hashes

-- the bytes in which exactly the probed bits are set
unfoldable pub filter_bytes : List ℕ → List ℕ
filter_bytes hashes = map (λ k. number_of (λ i. is_probed hashes (8 * k + i)) 8) (range_with_len 0 (bytes_for (length hashes)))

-- all seven bits of the hash are set
unfoldable pub admits : List ℕ → ℕ → Bool
admits bytes hash = list_all (λ i. is_set bytes (place (8 * length bytes) hash i)) (range_with_len 0 7)

-- a filter has a byte, and the number of its bits stands beside
pub record HasBits (bytes : List ℕ) (bits : ℕ) : Type 0 where
  pub some : 0 < length bytes
  pub eight : bits ≡ 8 * length bytes
