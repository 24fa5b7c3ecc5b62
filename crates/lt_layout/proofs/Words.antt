-- Bytes that are compared eight at a time.
use Rattle.std.proofs.Common.{◌≡◌, ℕ, ◌+◌, ◌-◌, ◌<◌, ◌≤◌, Bool, true, false, not, ◌&&◌, List, length, drop, refl, sym, ap, ◌∙◌, arith}
use Rattle.std.specs.Prelude.{nat_eq, Some}
use Rattle.std.specs.Int.{w64, to_be_bytes, from_be_bytes}
use Rattle.std.specs.Cmp.Lexicographic.{pointwise}
use Rattle.std.proofs.lemmas.Bool.{eqb-true, eq-eqb, and_parts, and_from}
use Rattle.std.proofs.lemmas.List.{drop-drop, length-drop, length-take}
use Rattle.lt_rec.specs.Record.{stem_of}
use Rattle.lt_rec.proofs.Reading.{IsBytes, wide64}
use Rattle.lt_layout.specs.Spelling.{differs}
use Rattle.lt_layout.specs.Reading.{are_alike}
use Rattle.lt_layout.proofs.Asked.{same_bytes, bytes_same_by}

-- two tests of which each follows from the other
pub both_ways : (p q : Bool) → (p ≡ true → q ≡ true) → (q ≡ true → p ≡ true) → p ≡ q
both_ways true q to from = sym (to refl)
both_ways false true to from = from refl
both_ways false false to from = refl

pub word_same : (a b : List ℕ) → IsBytes a → IsBytes b → length a ≡ 8 → length b ≡ 8 → nat_eq (from_be_bytes w64 a) (from_be_bytes w64 b) ≡ pointwise nat_eq a b
word_same a b fa fb la lb =
    let m = from_be_bytes w64 a in
    let n = from_be_bytes w64 b in
    both_ways (nat_eq m n) (pointwise nat_eq a b)
    (λ e. bytes_same_by a b (sym (wide64.back a la fa) ∙ (ap (to_be_bytes w64) (eqb-true m n e) ∙ wide64.back b lb fb)))
    (λ e. eq-eqb m n (ap (from_be_bytes w64) (same_bytes a b e)))

-- what lies within the last eight bytes
within_ends : (k : ℕ) (a : List ℕ) → length a - 8 ≤ k → drop (k - (length a - 8)) (drop (length a - 8) a) ≡ drop k a
within_ends k a le = drop-drop (k - (length a - 8)) (length a - 8) a ∙ (let whole : length a - 8 + (k - (length a - 8)) ≡ k = omega (arith, le) in ap (λ (n : ℕ). drop n a) whole)

-- behind the first eight bytes the last eight are the same again
pub ends_behind : (a b : List ℕ) → length a ≡ length b → 8 < length a → drop (length a - 8) a ≡ drop (length b - 8) b
    → drop (length (drop 8 a) - 8) (drop 8 a) ≡ drop (length (drop 8 b) - 8) (drop 8 b)
ends_behind a b len long ends =
    let k = 8 + (length a - 8 - 8) in
    let at_a : 8 + (length (drop 8 a) - 8) ≡ k = omega (arith, length-drop 8 a) in
    let at_b : 8 + (length (drop 8 b) - 8) ≡ k = omega (arith, len, length-drop 8 b) in
    let step : k - (length a - 8) ≡ k - (length b - 8) = omega (arith, len) in
    drop-drop (length (drop 8 a) - 8) 8 a
    ∙ (ap (λ (n : ℕ). drop n a) at_a
    ∙ (sym (within_ends k a (omega arith))
    ∙ (ap (drop (k - (length a - 8))) ends
    ∙ (ap (λ (n : ℕ). drop n (drop (length b - 8) b)) step
    ∙ (within_ends k b (omega (arith, len))
    ∙ (ap (λ (n : ℕ). drop n b) (sym at_b)
    ∙ sym (drop-drop (length (drop 8 b) - 8) 8 b)))))))

pub same_len : (a b : List ℕ) → pointwise nat_eq a b ≡ true → length a ≡ length b
same_len a b e = ap length (same_bytes a b e)

-- ---- keys

pub alike_parts : (last key : List ℕ) → are_alike last key ≡ true → (length last ≡ length key) × (stem_of last ≡ stem_of key)
alike_parts last key e =
    let p = and_parts (nat_eq (length last) (length key)) (pointwise nat_eq (stem_of last) (stem_of key)) e in
    (eqb-true (length last) (length key) p.0, same_bytes (stem_of last) (stem_of key) p.1)

-- keys with a timestamp each are alike where their stems are
pub alike_stems : (last key : List ℕ) → 8 ≤ length last → 8 ≤ length key → are_alike last key ≡ pointwise nat_eq (stem_of last) (stem_of key)
alike_stems last key ll lk =
    let lens = nat_eq (length last) (length key) in
    let stems = pointwise nat_eq (stem_of last) (stem_of key) in
    both_ways (lens && stems) stems
    (λ e. (and_parts lens stems e).1)
    (λ e. and_from lens stems (eq-eqb (length last) (length key) (omega (arith, ll, lk, same_len (stem_of last) (stem_of key) e, length-take (length last - 8) last, length-take (length key - 8) key))) e)

pub alike_differs : (last key : List ℕ) → 8 ≤ length last → 8 ≤ length key → not (are_alike last key) ≡ differs (Some (stem_of last)) (stem_of key)
alike_differs last key ll lk = ap not (alike_stems last key ll lk)
