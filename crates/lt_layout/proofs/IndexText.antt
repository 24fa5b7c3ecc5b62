-- What is read as an index is spelled so, and what is spelled so is read.
use Rattle.std.proofs.Common.{◌≡◌, ℕ, zero, suc, ◌+◌, ◌^◌, ◌<◌, Bool, true, not, eqb, ltb, leb, ◌&&◌, ◌||◌, List, [], ◌∷◌, ◌++◌, length, Result, Ok, refl, sym, ap, subst, ◌∙◌, append_assoc, arith, inl, inr}
use Rattle.std.specs.Prelude.{nat_eq}
use Rattle.std.specs.List.{flat_map}
use Rattle.std.specs.Int.{w32, w64, to_be_bytes}
use Rattle.std.proofs.lemmas.Bool.{ltb-true, leb-true, lt-ltb, le-leb, eqb-true, eq-eqb, and_parts, and_from, or_cases, or_left, or_right, not-true, not_from_false}
use Rattle.lt_rec.specs.Bytes.{is_less}
use Rattle.lt_rec.specs.Reading.{◌>>=◌, number_at, bytes_at, asked}
use Rattle.lt_block.specs.Reading.{is_key_len}
use Rattle.lt_rec.proofs.Reading.{IsBytes, bind_ok, ok_is, Takes, Takes-then, wide32, number_takes, number_again, bytes_take, bytes_again, asked_ok, asked_again}
use Rattle.lt_layout.specs.Spelling.{Entry, key_spelled, entry_spelled, end_of}
use Rattle.lt_layout.specs.Entries.{IsKey, IsEntry, IsEntries}
use Rattle.lt_layout.specs.Reading.{key_at, is_len, entry_at, entry_len, entries_at}
use Rattle.lt_layout.proofs.FooterText.{asked_takes, number_asked}

-- ---- a key

pub record KeyFound (bytes : List ℕ) (x : List ℕ × List ℕ) : Type 0 where
  pub takes : Takes bytes (key_spelled x.0) x.1
  pub key : IsKey x.0

abbrev bytes_behind : ℕ → ℕ × List ℕ → Result (List ℕ × List ℕ) ℕ
bytes_behind at n = bytes_at n.0 at n.1

pub key_takes : (at : ℕ) (bytes : List ℕ) (x : List ℕ × List ℕ) → IsBytes bytes → key_at at bytes ≡ Ok x → KeyFound bytes x
unfolding key_at
key_takes at bytes x fits e =
    let a = bind_ok (asked is_key_len at (number_at w32 at bytes)) (bytes_behind at) x e in
    let b = asked_ok is_key_len at (number_at w32 at bytes) a.0 a.1 in
    let t = number_takes w32 (2 ^ 32) wide32 at bytes a.0 fits b.0 in
    let k = bytes_take a.0.0 at a.0.1 x t.0.rest_fits a.2 in
    let lens = and_parts (leb 8 a.0.0) (leb a.0.0 4096) b.1 in
    let both = Takes-then bytes (to_be_bytes w32 a.0.0) a.0.1 x.0 x.1 t.0 k.0 in
    record {
      takes = subst (λ (n : ℕ). Takes bytes (to_be_bytes w32 n ++ x.0) x.1) (sym k.1) both;
      key = record { long_enough = omega (arith, k.1, leb-true _ _ lens.0); short_enough = omega (arith, k.1, leb-true _ _ lens.1) };
    }

pub key_again : (at : ℕ) (key rest : List ℕ) → IsKey key → key_at at (key_spelled key ++ rest) ≡ Ok (key, rest)
unfolding key_at
key_again at key rest h =
    let test : is_key_len (length key) ≡ true = and_from (leb 8 (length key)) (leb (length key) 4096) (le-leb _ _ h.long_enough) (le-leb _ _ h.short_enough) in
    ap (key_at at) (append_assoc (to_be_bytes w32 (length key)) key rest)
    ∙ (ap (λ (q : Result (ℕ × List ℕ) ℕ). q >>= bytes_behind at) (asked_again is_key_len at (number_at w32 at (to_be_bytes w32 (length key) ++ (key ++ rest))) (length key, key ++ rest) (number_again w32 (2 ^ 32) wide32 at (length key) (key ++ rest) (omega (arith, h.short_enough))) test)
    ∙ bytes_again at key rest)

-- ---- an entry

abbrev made : (offset len count : ℕ) → (first last : List ℕ) → Entry
made offset len count first last = record { offset = offset; len = len; count = count; first = first; last = last }

abbrev not_below : List ℕ → List ℕ → Bool
not_below first key = not (is_less key first)

abbrev from_first : (at offset len count : ℕ) → List ℕ × List ℕ → Result (Entry × List ℕ) ℕ
from_first at offset len count x = asked (not_below x.0) (at + 20 + length x.0) (key_at (at + 20 + length x.0) x.1) >>= λ y. Ok (made offset len count x.0 y.0, y.1)

abbrev from_count : (at : ℕ) → List ℕ → (offset len : ℕ) → ℕ × List ℕ → Result (Entry × List ℕ) ℕ
from_count at last offset len x = asked (is_less last) (at + 16) (key_at (at + 16) x.1) >>= from_first at offset len x.0

abbrev from_len : (at : ℕ) → List ℕ → (offset : ℕ) → ℕ × List ℕ → Result (Entry × List ℕ) ℕ
from_len at last offset x = asked (λ n. ltb 0 n) (at + 12) (number_at w32 (at + 12) x.1) >>= from_count at last offset x.0

abbrev from_offset : (index left at start : ℕ) → List ℕ → ℕ × List ℕ → Result (Entry × List ℕ) ℕ
from_offset index left at start last x = asked (is_len index left start) (at + 8) (number_at w32 (at + 8) x.1) >>= from_len at last x.0

small_takes : (test : ℕ → Bool) (at : ℕ) (bytes : List ℕ) (x : ℕ × List ℕ) → IsBytes bytes → asked test at (number_at w32 at bytes) ≡ Ok x → Takes bytes (to_be_bytes w32 x.0) x.1 × (test x.0 ≡ true)
small_takes test at bytes x fits e =
    let a = asked_ok test at (number_at w32 at bytes) x e in
    let t = number_takes w32 (2 ^ 32) wide32 at bytes x fits a.0 in
    (t.0, a.1)

small_asked : (test : ℕ → Bool) (at n : ℕ) (rest : List ℕ) → n < 2 ^ 32 → test n ≡ true → asked test at (number_at w32 at (to_be_bytes w32 n ++ rest)) ≡ Ok (n, rest)
small_asked test at n rest lt h = asked_again test at (number_at w32 at (to_be_bytes w32 n ++ rest)) (n, rest) (number_again w32 (2 ^ 32) wide32 at n rest lt) h

pub record EntryFound (index left start : ℕ) (last bytes : List ℕ) (x : Entry × List ℕ) : Type 0 where
  pub takes : Takes bytes (entry_spelled x.0) x.1
  pub entry : IsEntry index left start last x.0

ends_there : (index left start n : ℕ) → (ltb 0 left || eqb (start + n) index) ≡ true → left ≡ 0 → start + n ≡ index
ends_there index left start n h none =
    elim (or_cases (ltb 0 left) (eqb (start + n) index) h) [
      | inl some ↦ absurd (omega (arith, none, ltb-true 0 left some))
      | inr same ↦ eqb-true _ _ same
    ]

pub entry_takes : (index left at start : ℕ) (last bytes : List ℕ) (x : Entry × List ℕ) → IsBytes bytes → entry_at index left at start last bytes ≡ Ok x → EntryFound index left start last bytes x
unfolding entry_at
entry_takes index left at start last bytes x fits e =
    let a = bind_ok (asked (nat_eq start) at (number_at w64 at bytes)) (from_offset index left at start last) x e in
    let b = bind_ok (asked (is_len index left start) (at + 8) (number_at w32 (at + 8) a.0.1)) (from_len at last a.0.0) x a.2 in
    let c = bind_ok (asked (λ n. ltb 0 n) (at + 12) (number_at w32 (at + 12) b.0.1)) (from_count at last a.0.0 b.0.0) x b.2 in
    let d = bind_ok (asked (is_less last) (at + 16) (key_at (at + 16) c.0.1)) (from_first at a.0.0 b.0.0 c.0.0) x c.2 in
    let f = bind_ok (asked (not_below d.0.0) (at + 20 + length d.0.0) (key_at (at + 20 + length d.0.0) d.0.1)) (λ y. Ok (made a.0.0 b.0.0 c.0.0 d.0.0 y.0, y.1)) x d.2 in
    let ta = asked_takes (nat_eq start) at at bytes a.0 fits a.1 in
    let tb = small_takes (is_len index left start) (at + 8) a.0.1 b.0 ta.0.takes.rest_fits b.1 in
    let tc = small_takes (λ n. ltb 0 n) (at + 12) b.0.1 c.0 tb.0.rest_fits c.1 in
    let ad = asked_ok (is_less last) (at + 16) (key_at (at + 16) c.0.1) d.0 d.1 in
    let td = key_takes (at + 16) c.0.1 d.0 tc.0.rest_fits ad.0 in
    let af = asked_ok (not_below d.0.0) (at + 20 + length d.0.0) (key_at (at + 20 + length d.0.0) d.0.1) f.0 f.1 in
    let tf = key_takes (at + 20 + length d.0.0) d.0.1 f.0 td.takes.rest_fits af.0 in
    let p3 = Takes-then c.0.1 (key_spelled d.0.0) d.0.1 (key_spelled f.0.0) f.0.1 td.takes tf.takes in
    let p2 = Takes-then b.0.1 (to_be_bytes w32 c.0.0) c.0.1 (key_spelled d.0.0 ++ key_spelled f.0.0) f.0.1 tc.0 p3 in
    let p1 = Takes-then a.0.1 (to_be_bytes w32 b.0.0) b.0.1 (to_be_bytes w32 c.0.0 ++ (key_spelled d.0.0 ++ key_spelled f.0.0)) f.0.1 tb.0 p2 in
    let p0 = Takes-then bytes (to_be_bytes w64 a.0.0) a.0.1 (to_be_bytes w32 b.0.0 ++ (to_be_bytes w32 c.0.0 ++ (key_spelled d.0.0 ++ key_spelled f.0.0))) f.0.1 ta.0.takes p1 in
    let len = and_parts (leb 32 b.0.0 && leb b.0.0 65536) (ltb 0 left || eqb (start + b.0.0) index) tb.1 in
    let both = and_parts (leb 32 b.0.0) (leb b.0.0 65536) len.0 in
    subst (EntryFound index left start last bytes) (ok_is (made a.0.0 b.0.0 c.0.0 d.0.0 f.0.0, f.0.1) x f.2)
    (record {
      takes = p0;
      entry = record {
        placed = sym (eqb-true _ _ ta.1);
        long_enough = leb-true _ _ both.0;
        short_enough = leb-true _ _ both.1;
        ends = ends_there index left start b.0.0 len.1;
        some = ltb-true _ _ tc.1;
        above = ad.1;
        ordered = not-true _ af.1;
        first = td.key;
        final = tf.key;
      };
    })

pub entry_again : (index left at start : ℕ) (last : List ℕ) (e : Entry) (rest : List ℕ) → IsEntry index left start last e → e.offset < 2 ^ 64 → e.count < 2 ^ 32 → entry_at index left at start last (entry_spelled e ++ rest) ≡ Ok (e, rest)
unfolding entry_at
entry_again index left at start last e rest h small few =
    let r4 : List ℕ = key_spelled e.last ++ rest in
    let r3 : List ℕ = key_spelled e.first ++ r4 in
    let r2 : List ℕ = to_be_bytes w32 e.count ++ r3 in
    let r1 : List ℕ = to_be_bytes w32 e.len ++ r2 in
    let regrouped : entry_spelled e ++ rest ≡ to_be_bytes w64 e.offset ++ (to_be_bytes w32 e.len ++ (to_be_bytes w32 e.count ++ (key_spelled e.first ++ (key_spelled e.last ++ rest)))) =
    ap (λ (t : List ℕ). to_be_bytes w64 e.offset ++ (to_be_bytes w32 e.len ++ (to_be_bytes w32 e.count ++ t))) (append_assoc (key_spelled e.first) (key_spelled e.last) rest) in
    let ends : (ltb 0 left || eqb (start + e.len) index) ≡ true = at_end left h.ends in
    let len : is_len index left start e.len ≡ true = and_from (leb 32 e.len && leb e.len 65536) (ltb 0 left || eqb (start + e.len) index) (and_from (leb 32 e.len) (leb e.len 65536) (le-leb _ _ h.long_enough) (le-leb _ _ h.short_enough)) ends in
    ap (entry_at index left at start last) regrouped
    ∙ (ap (λ (q : Result (ℕ × List ℕ) ℕ). q >>= from_offset index left at start last) (number_asked (nat_eq start) at at e.offset r1 small (eq-eqb _ _ (sym h.placed)))
    ∙ (ap (λ (q : Result (ℕ × List ℕ) ℕ). q >>= from_len at last e.offset) (small_asked (is_len index left start) (at + 8) e.len r2 (omega (arith, h.short_enough)) len)
    ∙ (ap (λ (q : Result (ℕ × List ℕ) ℕ). q >>= from_count at last e.offset e.len) (small_asked (λ n. ltb 0 n) (at + 12) e.count r3 few (lt-ltb _ _ h.some))
    ∙ (ap (λ (q : Result (List ℕ × List ℕ) ℕ). q >>= from_first at e.offset e.len e.count) (asked_again (is_less last) (at + 16) (key_at (at + 16) r3) (e.first, r4) (key_again (at + 16) e.first r4 h.first) h.above)
    ∙ ap (λ (q : Result (List ℕ × List ℕ) ℕ). q >>= λ y. Ok (made e.offset e.len e.count e.first y.0, y.1)) (asked_again (not_below e.first) (at + 20 + length e.first) (key_at (at + 20 + length e.first) r4) (e.last, rest) (key_again (at + 20 + length e.first) e.last rest h.final) (not_from_false _ h.ordered))))))
  where
    at_end : (n : ℕ) → (n ≡ 0 → start + e.len ≡ index) → (ltb 0 n || eqb (start + e.len) index) ≡ true
    at_end zero there = or_right (ltb 0 0) (eqb (start + e.len) index) (eq-eqb _ _ (there refl))
    at_end (suc n) there = or_left (ltb 0 (suc n)) (eqb (start + e.len) index) (lt-ltb _ _ (omega arith))

-- ---- entries one after the other

pub record EntriesFound (index n start : ℕ) (last bytes : List ℕ) (x : List Entry × List ℕ) : Type 0 where
  pub takes : Takes bytes (flat_map entry_spelled x.0) x.1
  pub count : length x.0 ≡ n
  pub entries : IsEntries index start last x.0

pub entries_take : (index n at start : ℕ) (last bytes : List ℕ) (x : List Entry × List ℕ) → IsBytes bytes → entries_at index n at start last bytes ≡ Ok x → EntriesFound index n start last bytes x
unfolding entries_at
entries_take index zero at start last bytes x fits e =
    subst (EntriesFound index 0 start last bytes) (ok_is ([], bytes) x e) (record { takes = record { parts = refl; rest_fits = fits }; count = refl; entries = tt })
entries_take index (suc n) at start last bytes x fits e =
    let a = bind_ok (entry_at index n at start last bytes) (λ first. entries_at index n (at + entry_len first.0) (start + first.0.len) first.0.last first.1 >>= λ others. Ok (first.0 ∷ others.0, others.1)) x e in
    let b = bind_ok (entries_at index n (at + entry_len a.0.0) (start + a.0.0.len) a.0.0.last a.0.1) (λ others. Ok (a.0.0 ∷ others.0, others.1)) x a.2 in
    let first = entry_takes index n at start last bytes a.0 fits a.1 in
    let second = entries_take index n (at + entry_len a.0.0) (start + a.0.0.len) a.0.0.last a.0.1 b.0 first.takes.rest_fits b.1 in
    let both = Takes-then bytes (entry_spelled a.0.0) a.0.1 (flat_map entry_spelled b.0.0) b.0.1 first.takes second.takes in
    let one : IsEntry index (length b.0.0) start last a.0.0 = subst (λ (m : ℕ). IsEntry index m start last a.0.0) (sym second.count) first.entry in
    subst (EntriesFound index (suc n) start last bytes) (ok_is (a.0.0 ∷ b.0.0, b.0.1) x b.2)
    (record { takes = both; count = ap suc second.count; entries = (one, second.entries) })

-- each of them begins within eight bytes' numbers and counts within four
abbrev pub AreSmall : List Entry → Type 0
AreSmall [] = Unit {0}
AreSmall (e ∷ es) = ((e.offset < 2 ^ 64) × (e.count < 2 ^ 32)) × AreSmall es

pub entries_again : (index at start : ℕ) (last : List ℕ) (es : List Entry) (rest : List ℕ) → IsEntries index start last es → AreSmall es → entries_at index (length es) at start last (flat_map entry_spelled es ++ rest) ≡ Ok (es, rest)
unfolding entries_at
entries_again index at start last [] rest h small = refl
entries_again index at start last (e ∷ es) rest h small =
    ap (entries_at index (suc (length es)) at start last) (append_assoc (entry_spelled e) (flat_map entry_spelled es) rest)
    ∙ (ap (λ (q : Result (Entry × List ℕ) ℕ). q >>= λ first. entries_at index (length es) (at + entry_len first.0) (start + first.0.len) first.0.last first.1 >>= λ others. Ok (first.0 ∷ others.0, others.1)) (entry_again index (length es) at start last e (flat_map entry_spelled es ++ rest) h.0 small.0.0 small.0.1)
    ∙ ap (λ (q : Result (List Entry × List ℕ) ℕ). q >>= λ others. Ok (e ∷ others.0, others.1)) (entries_again index (at + entry_len e) (start + e.len) e.last es rest h.1 small.1))

-- ---- what entries are footer_numbers to be

pub ends : (index start : ℕ) (last : List ℕ) (es : List Entry) → 0 < length es → IsEntries index start last es → end_of start es ≡ index
ends index start last [] some h = absurd (omega (arith, some))
ends index start last (e ∷ []) some h = h.0.ends refl
ends index start last (e ∷ (f ∷ es)) some h = ends index (start + e.len) e.last (f ∷ es) (omega arith) h.1
