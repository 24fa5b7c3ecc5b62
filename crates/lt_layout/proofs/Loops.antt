-- Entries and records that loops read one after the other.
use Rattle.std.proofs.Common.{◌≡◌, ℕ, suc, ◌+◌, ◌-◌, ◌^◌, ◌<◌, ◌≤◌, Bool, true, false, cond, ltb, List, [], ◌∷◌, ◌++◌, length, Result, Ok, Err, refl, sym, ap, ◌∙◌, append_assoc, arith}
use Rattle.std.specs.Prelude.{nat_eq, Option, Some, None, OnOk}
use Rattle.std.specs.Int.{w32, w64}
use Rattle.std.proofs.lemmas.Bool.{ltb-false, ne_eqb, eqb-true}
use Rattle.std.proofs.lemmas.List.{append-nil}
use Rattle.lt_rec.specs.Record.{Record, stored_len}
use Rattle.lt_rec.specs.Reading.{◌>>=◌, Reads, number_at, ended, asked, holds}
use Rattle.lt_rec.proofs.Reading.{IsBytes, wide64, number_takes, holds_ok, asked_again}
use Rattle.lt_layout.specs.Spelling.{Entry, Totals}
use Rattle.lt_rec.specs.declared.fault.Fault.{Fault}
use Rattle.lt_block.proofs.Loop.{err_is}
use Rattle.lt_layout.specs.Surveying.{Checks}
use Rattle.lt_layout.specs.Reading.{entry_at, entry_len, entries_at, own_record_at, own_records_at, own_block_at}

-- what was read before, and what is still read
abbrev pub with_front : {A : Type 0} → List A → Result (List A × List ℕ) ℕ → Result (List A × List ℕ) ℕ
with_front front read = read >>= λ x. Ok (front ++ x.0, x.1)

abbrev behind : {A : Type 0} → A → Result (List A × List ℕ) ℕ → Result (List A × List ℕ) ℕ
behind first read = read >>= λ x. Ok (first ∷ x.0, x.1)

regroup : {A : Type 0} (front : List A) (first : A) (read : Result (List A × List ℕ) ℕ) → with_front front (behind first read) ≡ with_front (front ++ first ∷ []) read
regroup front first (Ok x) = ap (λ (xs : List _). Ok (xs, x.1)) (sym (append_assoc front (first ∷ []) x.0))
regroup front first (Err at) = refl

-- ---- entries

-- the offset, where eight bytes have such a number
abbrev pub place_of : ℕ → Option ℕ
place_of n = cond (ltb n (2 ^ 64)) (Some n) None

pub place_some : (n m : ℕ) → Some m ≡ place_of n → n ≡ m
place_some n m e = at (ltb n (2 ^ 64)) e
  where
    at : (b : Bool) → Some m ≡ cond b (Some n) None → n ≡ m
    at true e = cc
    at false e = absurd cc

abbrev nowhere : Option ℕ
nowhere = None

pub place_none : (n : ℕ) → nowhere ≡ place_of n → 2 ^ 64 ≤ n
place_none n e = at (ltb n (2 ^ 64)) refl e
  where
    at : (b : Bool) → ltb n (2 ^ 64) ≡ b → nowhere ≡ cond b (Some n) None → 2 ^ 64 ≤ n
    at true t e = absurd cc
    at false t e = ltb-false n (2 ^ 64) t

pub with_none : {A : Type 0} (r : Result (List A × List ℕ) ℕ) → with_front [] r ≡ r
with_none (Ok x) = refl
with_none (Err at) = refl

pub entries_start : (items : List Entry) (index count n at : ℕ) (bytes : List ℕ) → items ≡ [] → n ≡ count → at ≡ index → with_front items (entries_at index n at 8 [] bytes) ≡ entries_at index count index 8 [] bytes
entries_start items index count n at bytes none same there =
    ap (λ (xs : List Entry). with_front xs (entries_at index n at 8 [] bytes)) none
    ∙ (with_none (entries_at index n at 8 [] bytes)
    ∙ (ap (λ (m : ℕ). entries_at index m at 8 [] bytes) same ∙ ap (λ (m : ℕ). entries_at index count m 8 [] bytes) there))

-- the next entry is read
pub entries_more : (front : List Entry) (index count i at next start : ℕ) (last bytes : List ℕ) (e : Entry) (after : List ℕ) (total : Result (List Entry × List ℕ) ℕ) → i < count → next ≡ at + entry_len e → entry_at index (count - (i + 1)) at start last bytes ≡ Ok (e, after)
    → with_front front (entries_at index (count - i) at start last bytes) ≡ total → with_front (front ++ e ∷ []) (entries_at index (count - (i + 1)) next (start + e.len) e.last after) ≡ total
unfolding entries_at
entries_more front index count i at next start last bytes e after total lt n q so_far =
    let k : count - i ≡ suc (count - (i + 1)) = omega arith in
    let one : with_front front (entries_at index (count - i) at start last bytes) ≡ with_front (front ++ e ∷ []) (entries_at index (count - (i + 1)) (at + entry_len e) (start + e.len) e.last after) =
    rw (k, q) (regroup front e (entries_at index (count - (i + 1)) (at + entry_len e) (start + e.len) e.last after)) in
    ap (λ (m : ℕ). with_front (front ++ e ∷ []) (entries_at index (count - (i + 1)) m (start + e.len) e.last after)) n ∙ (sym one ∙ so_far)

pub entry_here : (index left left2 at start start2 : ℕ) (last bytes : List ℕ) (r : Result (Entry × List ℕ) ℕ) → left ≡ left2 → start ≡ start2 → entry_at index left2 at start2 last bytes ≡ r → entry_at index left at start last bytes ≡ r
entry_here index left left2 at start start2 last bytes r l b q =
    ap (λ (n : ℕ). entry_at index n at start last bytes) l ∙ (ap (λ (n : ℕ). entry_at index left2 at n last bytes) b ∙ q)

-- the next entry breaks a rule
pub entries_stop : (front : List Entry) (index count i at start f : ℕ) (last bytes : List ℕ) (total : Result (List Entry × List ℕ) ℕ) → i < count → entry_at index (count - (i + 1)) at start last bytes ≡ Err f
    → with_front front (entries_at index (count - i) at start last bytes) ≡ total → total ≡ Err f
unfolding entries_at
entries_stop front index count i at start f last bytes total lt q so_far =
    let k : count - i ≡ suc (count - (i + 1)) = omega arith in
    let one : with_front front (entries_at index (count - i) at start last bytes) ≡ Err f = rw (k, q) refl in
    sym so_far ∙ one

-- all entries are read
pub entries_done : (front : List Entry) (index count i at start : ℕ) (last bytes : List ℕ) (total : Result (List Entry × List ℕ) ℕ) → count ≤ i → with_front front (entries_at index (count - i) at start last bytes) ≡ total → total ≡ Ok (front, bytes)
unfolding entries_at
entries_done front index count i at start last bytes total le so_far =
    let k : count - i ≡ 0 = omega arith in
    let one : with_front front (entries_at index (count - i) at start last bytes) ≡ Ok (front, bytes) = rw k (ap (λ (xs : List Entry). Ok (xs, bytes)) (append-nil front)) in
    sym so_far ∙ one

-- the next entry is read, and what the loop keeps of it
pub entries_next : (items front : List Entry) (pushed e : Entry) (index count i at next start begin left : ℕ) (last key bytes after : List ℕ) (total : Result (List Entry × List ℕ) ℕ) → i < count → left ≡ count - (i + 1) → start ≡ begin → next ≡ at + entry_len e → items ≡ front ++ pushed ∷ [] → pushed ≡ e → key ≡ e.last
    → entry_at index left at begin last bytes ≡ Ok (e, after) → with_front front (entries_at index (count - i) at start last bytes) ≡ total → with_front items (entries_at index (count - (i + 1)) next (start + e.len) key after) ≡ total
entries_next items front pushed e index count i at next start begin left last key bytes after total lt l b n is same k q so_far =
    ap (λ (xs : List Entry). with_front xs (entries_at index (count - (i + 1)) next (start + e.len) key after)) (is ∙ ap (λ (v : Entry). front ++ v ∷ []) same)
    ∙ (ap (λ (v : List ℕ). with_front (front ++ e ∷ []) (entries_at index (count - (i + 1)) next (start + e.len) v after)) k
    ∙ entries_more front index count i at next start last bytes e after total lt n (entry_here index (count - (i + 1)) left at start begin last bytes (Ok (e, after)) (sym l) b q) so_far)

-- no block begins where no number of eight bytes is
pub entry_past : (index left at start : ℕ) (last bytes : List ℕ) → IsBytes bytes → 2 ^ 64 ≤ start → entry_at index left at start last bytes ≡ Err at
unfolding entry_at
entry_past index left at start last bytes fits far = rw (past (number_at w64 at bytes) refl) refl
  where
    other : (x : ℕ × List ℕ) → nat_eq start x.0 ≡ false → asked (nat_eq start) at (Ok x) ≡ Err at
    other x h = ap (λ (b : Bool). cond b (Ok x) (Err at)) h

    short : (b : Bool) (x : ℕ × List ℕ) (f : ℕ) → cond b (Err at) (Ok x) ≡ Err f → asked (nat_eq start) at (Err f) ≡ Err at
    short true x f h = sym h
    short false x f h = absurd cc

    past : (read : Result (ℕ × List ℕ) ℕ) → number_at w64 at bytes ≡ read → asked (nat_eq start) at (number_at w64 at bytes) ≡ Err at
    past (Ok x) q =
        let small = number_takes w64 (2 ^ 64) wide64 at bytes x fits q in
        ap (asked (nat_eq start) at) q ∙ other x (ne_eqb start x.0 (λ (h : start ≡ x.0). omega (arith, h, far, small.1)))
    past (Err f) q = ap (asked (nat_eq start) at) q ∙ short (ltb (length bytes) 8) _ f q

-- ---- the records of a block

pub records_more : (front : List Record) (t : Totals) (e : Entry) (count i at next : ℕ) (last bytes : List ℕ) (r : Record) (after : List ℕ) (total : Result (List Record × List ℕ) ℕ) → i < count → next ≡ at + stored_len r → own_record_at t e (count - (i + 1)) at last bytes ≡ Ok (r, after)
    → with_front front (own_records_at t e (count - i) at last bytes) ≡ total → with_front (front ++ r ∷ []) (own_records_at t e (count - (i + 1)) next r.key after) ≡ total
unfolding own_records_at
records_more front t e count i at next last bytes r after total lt n q so_far =
    let k : count - i ≡ suc (count - (i + 1)) = omega arith in
    let one : with_front front (own_records_at t e (count - i) at last bytes) ≡ with_front (front ++ r ∷ []) (own_records_at t e (count - (i + 1)) (at + stored_len r) r.key after) =
    rw (k, q) (regroup front r (own_records_at t e (count - (i + 1)) (at + stored_len r) r.key after)) in
    ap (λ (m : ℕ). with_front (front ++ r ∷ []) (own_records_at t e (count - (i + 1)) m r.key after)) n ∙ (sym one ∙ so_far)

-- the next record is read, and what the loop keeps of it
pub records_next : (front : List Record) (t : Totals) (e : Entry) (count i left at next : ℕ) (last key bytes : List ℕ) (r : Record) (after : List ℕ) (total : Result (List Record × List ℕ) ℕ) → i < count → left ≡ count - (i + 1) → next ≡ at + stored_len r → key ≡ r.key → own_record_at t e left at last bytes ≡ Ok (r, after)
    → with_front front (own_records_at t e (count - i) at last bytes) ≡ total → with_front (front ++ r ∷ []) (own_records_at t e (count - (i + 1)) next key after) ≡ total
records_next front t e count i left at next last key bytes r after total lt l n k q so_far =
    ap (λ (v : List ℕ). with_front (front ++ r ∷ []) (own_records_at t e (count - (i + 1)) next v after)) k
    ∙ records_more front t e count i at next last bytes r after total lt n (ap (λ (m : ℕ). own_record_at t e m at last bytes) (sym l) ∙ q) so_far

pub records_stop : (front : List Record) (t : Totals) (e : Entry) (count i at f : ℕ) (last bytes : List ℕ) (total : Result (List Record × List ℕ) ℕ) → i < count → own_record_at t e (count - (i + 1)) at last bytes ≡ Err f
    → with_front front (own_records_at t e (count - i) at last bytes) ≡ total → total ≡ Err f
unfolding own_records_at
records_stop front t e count i at f last bytes total lt q so_far =
    let k : count - i ≡ suc (count - (i + 1)) = omega arith in
    let one : with_front front (own_records_at t e (count - i) at last bytes) ≡ Err f = rw (k, q) refl in
    sym so_far ∙ one

pub records_done : (front : List Record) (t : Totals) (e : Entry) (count i at : ℕ) (last bytes : List ℕ) (total : Result (List Record × List ℕ) ℕ) → count ≤ i → with_front front (own_records_at t e (count - i) at last bytes) ≡ total → total ≡ Ok (front, bytes)
unfolding own_records_at
records_done front t e count i at last bytes total le so_far =
    let k : count - i ≡ 0 = omega arith in
    let one : with_front front (own_records_at t e (count - i) at last bytes) ≡ Ok (front, bytes) = rw k (ap (λ (xs : List Record). Ok (xs, bytes)) (append-nil front)) in
    sym so_far ∙ one

-- ---- a block

-- its number of records is the entry's
counted : (t : Totals) (e : Entry) (bytes : List ℕ) (n : ℕ) (back : List ℕ) (u : Unit {0}) → number_at w32 0 bytes ≡ Ok (n, back) → holds (nat_eq e.count n) 0 ≡ Ok u → own_block_at t e bytes ≡ (own_records_at t e n 4 [] back >>= λ x. ended (length bytes) x)
unfolding own_block_at
counted t e bytes n back u q h =
    let test = holds_ok (nat_eq e.count n) 0 u h in
    ap (λ (z : Result (ℕ × List ℕ) ℕ). z >>= λ c. own_records_at t e e.count 4 [] c.1 >>= λ x. ended (length bytes) x) (asked_again (nat_eq e.count) 0 (number_at w32 0 bytes) (n, back) q test)
    ∙ ap (λ (m : ℕ). own_records_at t e m 4 [] back >>= λ x. ended (length bytes) x) (eqb-true e.count n test)

pub block_stop : (front : List Record) (t : Totals) (e : Entry) (bytes : List ℕ) (m n : ℕ) (back : List ℕ) (u : Unit {0}) (i left at f : ℕ) (last rest : List ℕ) → m ≡ e.count → left ≡ n - (i + 1) → number_at w32 0 bytes ≡ Ok (n, back) → holds (nat_eq m n) 0 ≡ Ok u → i < n → own_record_at t e left at last rest ≡ Err f
    → with_front front (own_records_at t e (n - i) at last rest) ≡ own_records_at t e n 4 [] back → own_block_at t e bytes ≡ Err f
block_stop front t e bytes m n back u i left at f last rest c l q h lt r so_far =
    counted t e bytes n back u q (ap (λ (k : ℕ). holds (nat_eq k n) 0) (sym c) ∙ h)
    ∙ ap (λ (z : Result (List Record × List ℕ) ℕ). z >>= λ x. ended (length bytes) x) (records_stop front t e n i at f last rest (own_records_at t e n 4 [] back) lt (ap (λ (k : ℕ). own_record_at t e k at last rest) (sym l) ∙ r) so_far)

-- all of its records are read
pub block_done : (front : List Record) (t : Totals) (e : Entry) (bytes : List ℕ) (m n : ℕ) (back : List ℕ) (u : Unit {0}) (i at : ℕ) (last rest : List ℕ) → m ≡ e.count → number_at w32 0 bytes ≡ Ok (n, back) → holds (nat_eq m n) 0 ≡ Ok u → n ≤ i
    → with_front front (own_records_at t e (n - i) at last rest) ≡ own_records_at t e n 4 [] back → own_block_at t e bytes ≡ cond (nat_eq (length rest) 0) (Ok front) (Err (length bytes - length rest))
block_done front t e bytes m n back u i at last rest c q h le so_far =
    counted t e bytes n back u q (ap (λ (k : ℕ). holds (nat_eq k n) 0) (sym c) ∙ h) ∙ ap (λ (z : Result (List Record × List ℕ) ℕ). z >>= λ x. ended (length bytes) x) (records_done front t e n i at last rest (own_records_at t e n 4 [] back) le so_far)

pub records_start : (t : Totals) (e : Entry) (n m at : ℕ) (back : List ℕ) → m ≡ n → at ≡ 4 → with_front [] (own_records_at t e m at [] back) ≡ own_records_at t e n 4 [] back
records_start t e n m at back same there =
    with_none (own_records_at t e m at [] back) ∙ (ap (λ (k : ℕ). own_records_at t e k at [] back) same ∙ ap (λ (k : ℕ). own_records_at t e n k [] back) there)

-- what the last test of a block answers
pub checks_end : (r : Result (Unit {0}) Fault) (front : List Record) (test empty : Bool) (at : ℕ) (read : Result (List Record) ℕ) → test ≡ empty → Reads {X = Unit {0}} {Y = Unit {0}} (λ x. x) r (holds test at) → read ≡ cond empty (Ok front) (Err at) → Checks r read
checks_end (Ok u) front true true at read same h e = (front, e)
checks_end (Ok u) front true false at read same h e = absurd cc
checks_end (Ok u) front false empty at read same h e = absurd cc
checks_end (Err fault) front true empty at read same h e = absurd cc
checks_end (Err fault) front false false at read same h e = e ∙ err_is at fault.at h
checks_end (Err fault) front false true at read same h e = absurd cc

pub block_read : (front : List Record) (test empty : Bool) (at : ℕ) (u : Unit {0}) (read : Result (List Record) ℕ) → test ≡ empty → holds test at ≡ Ok u → read ≡ cond empty (Ok front) (Err at) → read ≡ Ok front
block_read front true true at u read same h e = e
block_read front true false at u read same h e = absurd cc
block_read front false empty at u read same h e = absurd cc

-- what holds holds where a call answers Ok
pub on_ok : {X E P : Type 0} (r : Result X E) → P → OnOk r P
on_ok (Ok x) p = p
on_ok (Err e) p = tt
