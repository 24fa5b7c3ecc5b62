-- Reading records one after the other, as a loop does.
use Rattle.std.proofs.Common.{◌≡◌, ℕ, suc, true, false, eqb, ltb, length, ◌-◌, ◌+◌, ◌≤◌, ◌<◌, List, [], ◌∷◌, ◌++◌, Result, Ok, Err, refl, sym, ap, ◌∙◌, append_assoc, arith}
use Rattle.std.proofs.lemmas.Bool.{eq-eqb, ne_eqb, lt-ltb, le-ltb}
use Rattle.std.proofs.lemmas.List.{append-nil}
use Rattle.lt_rec.specs.Record.{Record, stored_len}
use Rattle.lt_rec.specs.declared.fault.FormatError.{FormatError}
use Rattle.lt_rec.specs.declared.fault.FormatError.TheVariants as errors
use Rattle.lt_block.specs.Spelling.{places}
use Rattle.lt_rec.proofs.Reading.{ok_is}
use Rattle.lt_rec.specs.Reading.{◌>>=◌, Fails, ended}
use Rattle.lt_block.specs.Reading.{count_at, record_at, records_at, block_at, placed, places_at}

-- the places of what was read before, and of what is still read
abbrev pub with_front : List ℕ → Result (List ℕ × List ℕ) ℕ → Result (List ℕ × List ℕ) ℕ
with_front front read = read >>= λ x. Ok (front ++ x.0, x.1)

regroup : (front : List ℕ) (at : ℕ) (r : Record) (read : Result (List Record × List ℕ) ℕ) → with_front front (placed at (read >>= λ x. Ok (r ∷ x.0, x.1))) ≡ with_front (front ++ at ∷ []) (placed (at + stored_len r) read)
regroup front at r (Ok x) = ap (λ (ns : List ℕ). Ok (ns, x.1)) (simp append_assoc)
regroup front at r (Err f) = refl

pub goes_on : (front : List ℕ) (count i at next : ℕ) (last bytes : List ℕ) (r : Record) (after : List ℕ) (total : Result (List ℕ × List ℕ) ℕ) → i < count → next ≡ at + stored_len r → record_at at last bytes ≡ Ok (r, after)
    → with_front front (placed at (records_at (count - i) at last bytes)) ≡ total → with_front (front ++ at ∷ []) (placed next (records_at (count - (i + 1)) next r.key after)) ≡ total
unfolding records_at
goes_on front count i at next last bytes r after total lt e h so_far =
    let k : count - i ≡ suc (count - (i + 1)) = omega arith in
    let one : with_front front (placed at (records_at (count - i) at last bytes)) ≡ with_front (front ++ at ∷ []) (placed (at + stored_len r) (records_at (count - (i + 1)) (at + stored_len r) r.key after)) =
    rw (k, h) (regroup front at r (records_at (count - (i + 1)) (at + stored_len r) r.key after)) in
    ap (λ (n : ℕ). with_front (front ++ at ∷ []) (placed n (records_at (count - (i + 1)) n r.key after))) e ∙ (sym one ∙ so_far)

pub ends : (e : FormatError) (front : List ℕ) (count i at : ℕ) (last bytes : List ℕ) (total : Result (List ℕ × List ℕ) ℕ) → i < count → Fails e (record_at at last bytes)
    → with_front front (placed at (records_at (count - i) at last bytes)) ≡ total → Fails e total
unfolding records_at
ends errors.NoMemory front count i at last bytes total lt h so_far = tt
ends (errors.Bad f) front count i at last bytes total lt h so_far =
    let k : count - i ≡ suc (count - (i + 1)) = omega arith in
    let one : with_front front (placed at (records_at (count - i) at last bytes)) ≡ Err f = rw (k, h) refl in
    sym so_far ∙ one

pub is_done : (front : List ℕ) (count i at : ℕ) (last bytes : List ℕ) (total : Result (List ℕ × List ℕ) ℕ) → count ≤ i → with_front front (placed at (records_at (count - i) at last bytes)) ≡ total → total ≡ Ok (front, bytes)
unfolding records_at
is_done front count i at last bytes total le so_far =
    let k : count - i ≡ 0 = omega arith in
    let one : with_front front (placed at (records_at (count - i) at last bytes)) ≡ Ok (front, bytes) = rw k (ap (λ (ns : List ℕ). Ok (ns, bytes)) (append-nil front)) in
    sym so_far ∙ one

-- ---- the end of a block

abbrev pub behind : ℕ → Result (List Record × List ℕ) ℕ → Result (List ℕ) ℕ
behind total read = (read >>= ended total) >>= λ recs. Ok (places 4 recs)

pub at_end : (total : ℕ) (read : Result (List Record × List ℕ) ℕ) (offsets left : List ℕ) → placed 4 read ≡ Ok (offsets, left) → length left ≡ 0 → behind total read ≡ Ok offsets
at_end total (Ok x) offsets left e none =
    let p = ok_is (places 4 x.0, x.1) (offsets, left) e in
    let r : x.1 ≡ left = ap (λ (q : List ℕ × List ℕ). q.1) p in
    let o : places 4 x.0 ≡ offsets = ap (λ (q : List ℕ × List ℕ). q.0) p in
    let test : eqb (length x.1) 0 ≡ true = eq-eqb (length x.1) 0 (ap length r ∙ none) in
    rw (test, o) refl
at_end total (Err f) offsets left e none = absurd cc

pub too_many : (total : ℕ) (read : Result (List Record × List ℕ) ℕ) (offsets left : List ℕ) → placed 4 read ≡ Ok (offsets, left) → (length left ≡ 0 → ⊥) → behind total read ≡ Err (total - length left)
too_many total (Ok x) offsets left e some =
    let p = ok_is (places 4 x.0, x.1) (offsets, left) e in
    let r : x.1 ≡ left = ap (λ (q : List ℕ × List ℕ). q.1) p in
    let test : eqb (length x.1) 0 ≡ false = ne_eqb (length x.1) 0 (λ h. some (ap length (sym r) ∙ h)) in
    rw (test, r) refl
too_many total (Err f) offsets left e some = absurd cc

abbrev failed : {A : Type 0} → ℕ → Result A ℕ
failed at = Err at

pub err_is : {A B : Type 0} (f at : ℕ) → failed {A = A} f ≡ failed {A = A} at → failed {A = B} f ≡ failed {A = B} at
err_is f at h = let e : f ≡ at = cc in ap failed e

pub broken : (e : FormatError) (total : ℕ) (read : Result (List Record × List ℕ) ℕ) → Fails e (placed 4 read) → Fails e (behind total read)
broken errors.NoMemory total read h = tt
broken (errors.Bad at) total (Ok x) h = absurd cc
broken (errors.Bad at) total (Err f) h = err_is f at h

pub too_long : (bytes : List ℕ) → 65536 < length bytes → places_at bytes ≡ Err 65536
unfolding block_at
too_long bytes lt =
    let test : ltb 65536 (length bytes) ≡ true = lt-ltb _ _ lt in
    rw test refl

pub no_count : (e : FormatError) (bytes : List ℕ) → length bytes ≤ 65536 → Fails e (count_at bytes) → Fails e (places_at bytes)
unfolding block_at
no_count errors.NoMemory bytes le h = tt
no_count (errors.Bad at) bytes le h =
    let test : ltb 65536 (length bytes) ≡ false = le-ltb _ _ le in
    rw (test, h) refl

pub counted : (bytes : List ℕ) (count : ℕ) (rest : List ℕ) → length bytes ≤ 65536 → count_at bytes ≡ Ok (count, rest) → places_at bytes ≡ behind (length bytes) (records_at count 4 [] rest)
unfolding block_at
counted bytes count rest le h =
    let test : ltb 65536 (length bytes) ≡ false = le-ltb _ _ le in
    rw (test, h) refl
