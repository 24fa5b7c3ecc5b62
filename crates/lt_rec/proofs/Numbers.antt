-- What `byteorder` reads is the number of the first bytes.
use Rattle.std.proofs.Common.{◌≡◌, ℕ, ◌≤◌, List, length, take, drop, sym, ap, ◌∙◌, arith}
use Rattle.std.specs.Int.{w32, w64, from_be_bytes}
use Rattle.std.proofs.lemmas.List.{length-take-le, take-append-drop}
use Rattle.byteorder.specs.Endian.{big_number}
use Rattle.byteorder.specs.Numbers.{big_from-append}

pub read_4 : (xs : List ℕ) → 4 ≤ length xs → big_number 4 xs ≡ from_be_bytes w32 (take 4 xs)
read_4 xs enough =
    let first = big_from-append 4 (take 4 xs) (drop 4 xs) (omega (arith, length-take-le 4 xs enough)) in
    let whole : big_number 4 xs ≡ big_number 4 (take 4 xs) = ap (big_number 4) (sym (take-append-drop 4 xs)) ∙ first in
    whole ∙ omega arith

pub read_8 : (xs : List ℕ) → 8 ≤ length xs → big_number 8 xs ≡ from_be_bytes w64 (take 8 xs)
read_8 xs enough =
    let first = big_from-append 8 (take 8 xs) (drop 8 xs) (omega (arith, length-take-le 8 xs enough)) in
    let whole : big_number 8 xs ≡ big_number 8 (take 8 xs) = ap (big_number 8) (sym (take-append-drop 8 xs)) ∙ first in
    whole ∙ omega arith
