-- FNV-1a with 64 bits.
use Rattle.std.specs.Prelude.{ℕ, ◌*◌, ◌%◌, ◌^◌, List, fold, bit_xor}

-- a byte more: the hash is exclusive-ored with it and then multiplied, modulo 2^64
abbrev pub hashed : ℕ → ℕ → ℕ
hashed hash byte = (bit_xor hash byte * 0x100000001b3) % 2 ^ 64

abbrev pub hash_of : List ℕ → ℕ
hash_of bytes = fold hashed 0xcbf29ce484222325 bytes
