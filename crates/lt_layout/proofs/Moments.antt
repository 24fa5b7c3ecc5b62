-- Keys of one stem come in the order of their timestamps.
use Rattle.std.proofs.Common.{◌≡◌, ℕ, ◌-◌, ◌≤◌, ltb, List, [], ◌∷◌, ◌++◌, length, drop, refl, sym, ap, ◌∙◌, arith, Ordering, Less, Equal, Greater}
use Rattle.std.specs.Int.{w64, to_be_bytes, from_be_bytes}
use Rattle.std.specs.Ordering.{is_lt, nat_cmp, ordering_then}
use Rattle.std.specs.Cmp.Lexicographic.{slice_cmp}
use Rattle.std.proofs.lemmas.List.{append-nil, length-drop, take-append-drop}
use Rattle.std.proofs.lemmas.Bool.Decides.{nat_tests}
use Rattle.lt_rec.proofs.NumberOrder.{IsByBytes, equal_is, numbers}
use Rattle.lt_rec.specs.Bytes.{is_less}
use Rattle.lt_rec.specs.Record.{stem_of, time_of}
use Rattle.lt_rec.proofs.Reading.{IsBytes, IsBytes-drop, wide64}

abbrev compare : List ℕ → List ℕ → Ordering
compare = slice_cmp nat_cmp

compare_more : IsByBytes (slice_cmp nat_cmp)
compare_more a b r s = refl

then_equal : (o : Ordering) → ordering_then o Equal ≡ o
then_equal Less = refl
then_equal Equal = refl
then_equal Greater = refl

same_front : (s a b : List ℕ) → compare (s ++ a) (s ++ b) ≡ compare a b
same_front [] a b = refl
same_front (x ∷ s) a b = compare_more x x (s ++ a) (s ++ b) ∙ (ap (λ (o : Ordering). ordering_then o (compare (s ++ a) (s ++ b))) (equal_is x x refl) ∙ same_front s a b)

is_lt_is : (m n : ℕ) → is_lt (nat_cmp m n) ≡ ltb m n
is_lt_is m n = grind (arith, nat_tests)

-- eight bytes compare as the number that they spell
eights : (a b : List ℕ) → IsBytes a → IsBytes b → length a ≡ 8 → length b ≡ 8 → is_less a b ≡ ltb (from_be_bytes w64 a) (from_be_bytes w64 b)
eights a b fa fb la lb =
    let m = from_be_bytes w64 a in
    let n = from_be_bytes w64 b in
    let at_a : to_be_bytes w64 m ++ [] ≡ a = append-nil (to_be_bytes w64 m) ∙ wide64.back a la fa in
    let at_b : to_be_bytes w64 n ++ [] ≡ b = append-nil (to_be_bytes w64 n) ∙ wide64.back b lb fb in
    ap is_lt (ap (λ (x : List ℕ). compare x b) (sym at_a) ∙ (ap (compare (to_be_bytes w64 m ++ [])) (sym at_b) ∙ (numbers compare compare_more m n [] [] (wide64.below a fa) (wide64.below b fb) ∙ then_equal (nat_cmp m n)))) ∙ is_lt_is m n

pub by_time : (last key : List ℕ) → IsBytes last → IsBytes key → 8 ≤ length key → length last ≡ length key → stem_of last ≡ stem_of key → is_less last key ≡ ltb (time_of last) (time_of key)
by_time last key fl fk long same stems =
    let a = drop (length last - 8) last in
    let b = drop (length key - 8) key in
    let at_last : last ≡ stem_of key ++ a = sym (take-append-drop (length last - 8) last) ∙ ap (λ (s : List ℕ). s ++ a) stems in
    let at_key : key ≡ stem_of key ++ b = sym (take-append-drop (length key - 8) key) in
    ap (λ (x : List ℕ). is_lt (compare x key)) at_last
    ∙ (ap (λ (x : List ℕ). is_lt (compare (stem_of key ++ a) x)) at_key
    ∙ (ap is_lt (same_front (stem_of key) a b)
    ∙ eights a b (IsBytes-drop (length last - 8) last fl) (IsBytes-drop (length key - 8) key fk) (omega (arith, same, long, length-drop (length last - 8) last)) (omega (arith, long, length-drop (length key - 8) key))))
