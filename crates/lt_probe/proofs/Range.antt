-- Blocks from one up to another, and those around them.
use Rattle.std.proofs.Common.{◌≡◌, ℕ, zero, suc, ◌+◌, ◌-◌, ◌<◌, ◌≤◌, List, [], ◌∷◌, ◌++◌, length, take, drop, get_or, refl, sym, ap, ◌∙◌, arith, append_assoc, append-nil, length-drop}
use Rattle.std.specs.Prelude.{slice_get, Some}
use Rattle.std.specs.List.{All}
use Rattle.std.proofs.lemmas.List.{take_more, get_or-drop, take-append-drop}
use Rattle.std.proofs.lemmas.Option.{get_or_from_slice_get, slice_get_within}
use Rattle.lt_rec.specs.Record.{Record}
use Rattle.lt_rec.specs.Records.{joined}
use Rattle.lt_block.specs.Spelling.{spelling}
use Rattle.lt_layout.specs.Spelling.{entries_of}
use Rattle.lt_probe.proofs.Blocks.{all_joined}

pub joined-append : (ps qs : List (List Record)) → joined (ps ++ qs) ≡ joined ps ++ joined qs
joined-append [] qs = refl
joined-append (p ∷ ps) qs = ap (λ xs. p ++ xs) (joined-append ps qs) ∙ sym (append_assoc p (joined ps) (joined qs))

pub joined_push : (ps : List (List Record)) (p : List Record) → joined (ps ++ p ∷ []) ≡ joined ps ++ p
joined_push ps p = joined-append ps (p ∷ []) ∙ ap (λ xs. joined ps ++ xs) (append-nil p)

pub length-entries_of : (at : ℕ) (blocks : List (List Record)) → length (entries_of at blocks) ≡ length blocks
length-entries_of at [] = refl
length-entries_of at (b ∷ blocks) = ap suc (length-entries_of (at + length (spelling b)) blocks)

pub block_next : (blocks : List (List Record)) (i : ℕ) (block : List Record) → slice_get blocks i ≡ Some block → joined (take (i + 1) blocks) ≡ joined (take i blocks) ++ block
block_next blocks i block q =
    ap joined (take_more blocks i block (slice_get_within blocks i block q)) ∙ joined_push (take i blocks) (get_or blocks i block)
    ∙ ap (λ b. joined (take i blocks) ++ b) (get_or_from_slice_get blocks i block block q)

-- a block more
pub block_more : (blocks : List (List Record)) (from at : ℕ) (block : List Record) → from ≤ at → slice_get blocks at ≡ Some block → joined (take (at + 1 - from) (drop from blocks)) ≡ joined (take (at - from) (drop from blocks)) ++ block
block_more blocks from at block ordered q =
    let within = slice_get_within blocks at block q in
    let size = length-drop from blocks in
    let s : at + 1 - from ≡ (at - from) + 1 = omega arith in
    let t : from + (at - from) ≡ at = omega arith in
    ap (λ k. joined (take k (drop from blocks))) s
    ∙ ap joined (take_more (drop from blocks) (at - from) block (omega (arith, size, within)))
    ∙ joined_push (take (at - from) (drop from blocks)) (get_or (drop from blocks) (at - from) block)
    ∙ ap (λ b. joined (take (at - from) (drop from blocks)) ++ b) (get_or-drop from blocks (at - from) block ∙ ap (λ k. get_or blocks k block) t ∙ get_or_from_slice_get blocks at block block q)

-- all blocks: those before, those in the range, those behind
pub joined_three : (blocks : List (List Record)) (from n : ℕ) → joined blocks ≡ joined (take from blocks) ++ (joined (take n (drop from blocks)) ++ joined (drop n (drop from blocks)))
joined_three blocks from n =
    ap joined (sym (take-append-drop from blocks)) ∙ joined-append (take from blocks) (drop from blocks)
    ∙ ap (λ xs. joined (take from blocks) ++ xs) (ap joined (sym (take-append-drop n (drop from blocks))) ∙ joined-append (take n (drop from blocks)) (drop n (drop from blocks)))

front_get : (n : ℕ) (xs : List (List Record)) (i : ℕ) (x : List Record) → slice_get (take n xs) i ≡ Some x → (i < n) × (slice_get xs i ≡ Some x)
front_get zero xs i x q = absurd cc
front_get (suc n) [] i x q = absurd cc
front_get (suc n) (b ∷ xs) zero x q = (omega arith, q)
front_get (suc n) (b ∷ xs) (suc i) x q = let rest = front_get n xs i x q in (omega (arith, rest.0), rest.1)

back_get : (n : ℕ) (xs : List (List Record)) (i : ℕ) (x : List Record) → slice_get (drop n xs) i ≡ Some x → slice_get xs (n + i) ≡ Some x
back_get zero xs i x q = let s : 0 + i ≡ i = omega arith in ap (slice_get xs) s ∙ q
back_get (suc n) [] i x q = absurd cc
back_get (suc n) (b ∷ xs) i x q = let s : suc n + i ≡ suc (n + i) = omega arith in ap (slice_get (b ∷ xs)) s ∙ back_get n xs i x q

-- what holds in each block before one holds of all records before it, and so behind
pub all_before : (P : Record → Type 0) (blocks : List (List Record)) (from : ℕ) → ((i : ℕ) (recs : List Record) → slice_get blocks i ≡ Some recs → i < from → All P recs) → All P (joined (take from blocks))
all_before P blocks from each = all_joined P (take from blocks) (λ i recs q. let h = front_get from blocks i recs q in each i recs h.1 h.0)

pub all_behind : (P : Record → Type 0) (blocks : List (List Record)) (from to : ℕ) → from ≤ to → ((i : ℕ) (recs : List Record) → slice_get blocks i ≡ Some recs → to ≤ i → All P recs) → All P (joined (drop (to - from) (drop from blocks)))
all_behind P blocks from to ordered each = all_joined P (drop (to - from) (drop from blocks)) (λ i recs q.
    each (from + ((to - from) + i)) recs (back_get from blocks ((to - from) + i) recs (back_get (to - from) (drop from blocks) i recs q)) (omega arith))
