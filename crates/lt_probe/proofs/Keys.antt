-- Where a key can be.
use Rattle.std.proofs.Common.{◌≡◌, ◌≢◌, ◌⊎◌, ℕ, zero, suc, ◌+◌, ◌<◌, ◌≤◌, ◌||◌, ◌&&◌, Bool, true, false, not, leb, List, [], ◌∷◌, ◌++◌, length, get_or, refl, sym, ap, subst, ◌∙◌, arith, inl, inr}
use Rattle.std.specs.Prelude.{slice_get, Option, Some, None, IfSome, count_by, Contains}
use Rattle.std.specs.List.{All, AllByRecursion, list_any}
use Rattle.std.specs.Int.{w64, from_be_bytes}
use Rattle.std.proofs.lemmas.Nat.{from_be_bytes-to_be_bytes_8}
use Rattle.std.proofs.lemmas.Bool.{cases_lt, and_parts, and_from, le-leb}
use Rattle.std.proofs.lemmas.List.Elements.{All-from_recursion}
use Rattle.std.proofs.lemmas.List.Folds.{list_any_at}
use Rattle.std.proofs.lemmas.Option.{slice_get-get_or, slice_get_within, get_or_from_slice_get}
use Rattle.lt_rec.specs.Bytes.{is_less}
use Rattle.lt_rec.specs.Record.{Record, IsRecord, stem_of, time_of}
use Rattle.lt_rec.specs.Boxes.{is_below, meets_lo, meets_hi, in_box}
use Rattle.lt_rec.specs.declared.cut.Cut.{Cut}
use Rattle.lt_block.specs.Spelling.{IsBlock}
use Rattle.lt_bloom.specs.Filter.{admits, filter_bytes}
use Rattle.lt_bloom.specs.Hash.{hash_of}
use Rattle.lt_layout.specs.Spelling.{Entry, Totals, end_of, hashes_from, listed_totals}
use Rattle.lt_layout.specs.Entries.{IsEntries}
use Rattle.lt_tablet.specs.Loaded.{Loaded, IsTold, IsIndexRange, blocks_in, records_in, times_meet, may_have}
use Rattle.lt_layout.proofs.Sums.{Within, all_within}
use Rattle.lt_probe.specs.Keys.{HasNumber, NoneHas, is_spanned, may_have_key}
use Rattle.lt_probe.specs.Sought.{key_box}
use Rattle.std.proofs.lemmas.List.{get_or_default}
use Rattle.lt_block.specs.Below.{nobody}
use Rattle.lt_probe.proofs.Places.{first_below, first_not_less, differs_below, rises_pairs, or_none}
use Rattle.lt_probe.proofs.Less.{not_less_itself, less_trans, less_over, less_behind}
use Rattle.lt_probe.proofs.Blocks.{all_joined, any_joined}
use Rattle.lt_probe.proofs.Stems.{hash_in}

-- ---- the filter

pub denied : (t : Loaded) (key : List ℕ) → t.filter ≡ filter_bytes (hashes_from None (records_in t)) → ((hashes : List ℕ) → t.filter ≡ filter_bytes hashes → Contains hashes (hash_of (stem_of key)) → ⊥) → NoneHas (records_in t) key
denied t key is none k d h same =
    none (hashes_from None (records_in t)) is
    (subst (λ (s : List ℕ). Contains (hashes_from None (records_in t)) (hash_of (stem_of s))) same (hash_in (records_in t) k d h))

-- ---- the key's box

timed : (r : Record) → IsRecord r → r.ts ≡ time_of r.key
timed r law = sym (from_be_bytes-to_be_bytes_8 r.ts law.moment) ∙ ap (from_be_bytes w64) (sym law.timed)

-- the record of a key lies in the key's box
pub in_its_box : (r : Record) (key : List ℕ) → IsRecord r → r.key ≡ key → in_box (key_box key) r ≡ true
in_its_box r key law same =
    let time : r.ts ≡ time_of key = timed r law ∙ ap time_of same in
    let at_least : leb (time_of key) r.ts ≡ true = le-leb (time_of key) r.ts (omega (arith, time)) in
    let at_most : leb r.ts (time_of key) ≡ true = le-leb r.ts (time_of key) (omega (arith, time)) in
    let low : is_less r.key key ≡ false = ap (λ (k : List ℕ). is_less k key) same ∙ not_less_itself key in
    let high : is_less r.key (key ++ 0 ∷ []) ≡ true = ap (λ (k : List ℕ). is_less k (key ++ 0 ∷ [])) same ∙ less_behind key key ∙ ap not (not_less_itself key) in
    and_from (meets_lo (key_box key).lo r.key && meets_hi (key_box key).hi r.key) (leb (time_of key) r.ts && leb r.ts (time_of key))
    (and_from (meets_lo (key_box key).lo r.key) (meets_hi (key_box key).hi r.key) (ap (λ (b : Bool). not (b || false)) low) (ap (λ (b : Bool). b || false) high))
    (and_from (leb (time_of key) r.ts) (leb r.ts (time_of key)) at_least at_most)

lawful : (recs : List Record) → AllByRecursion IsRecord recs → All IsRecord recs
lawful recs h = All-from_recursion IsRecord recs h

-- a block with no record in the key's box doesn't have the key
none_in_box : (recs : List Record) (key : List ℕ) → IsBlock recs → All (λ r. in_box (key_box key) r ≡ false) recs → NoneHas recs key
none_in_box recs key block out k d h same =
    let there = in_its_box (get_or recs k d) key (lawful recs block.lawful k d h) same in
    let clash : true ≡ false = sym there ∙ out k d h in
    absurd cc

-- ---- one block

-- none has the key before the first record that isn't below it
pub none_below : (recs : List Record) (key : List ℕ) → IsBlock recs → length recs ≤ count_by (λ r. is_below (record { bytes = key; after = false }) r.key) recs → NoneHas recs key
none_below recs key block all k d h same =
    differs_below key recs k d h (first_below (record { bytes = key; after = false }) [] recs block.rising k (omega (arith, h, all))) same

-- nor behind it, where it has another one
pub none_behind : (recs : List Record) (key : List ℕ) (x : Record) → IsBlock recs → (place : ℕ) → place ≡ count_by (λ r. is_below (record { bytes = key; after = false }) r.key) recs → place < length recs → get_or recs place x ≡ x → x.key ≢ key → NoneHas recs key
none_behind recs key x block place is within here other k d h same =
    let cut : Cut = record { bytes = key; after = false } in
    elim (cases_lt k place) [
      | inl low ↦ differs_below key recs k d h (first_below cut [] recs block.rising k (omega (arith, low, is))) same
      | inr up ↦ elim (cases_lt place k) [
        | inl far ↦
            let above : is_less x.key key ≡ true = ap (λ (r : Record). is_less r.key key) (sym here ∙ get_or_default recs place x d within) ∙ ap (λ (b : List ℕ). is_less (get_or recs place d).key b) (sym same) ∙ rises_pairs [] recs block.rising place k d far h in
            let not_below : is_less x.key key ≡ false = ap (λ (r : Record). is_less r.key key) (sym here ∙ get_or_default recs place x nobody within) ∙ first_not_less key recs place block is within in
            let clash : true ≡ false = sym above ∙ not_below in
            absurd cc
        | inr near ↦
            let s : k ≡ place = omega arith in
            other (ap (λ (r : Record). r.key) (sym here ∙ get_or_default recs place x d within) ∙ ap (λ j. (get_or recs j d).key) (sym s) ∙ same)
      ]
    ]

-- ---- the index

-- keys rise from each block to the next
first_over : (index start : ℕ) (last : List ℕ) (es : List Entry) (j : ℕ) (b : Entry) → IsEntries index start last es → slice_get es j ≡ Some b → is_less last b.first ≡ true
first_over index start last [] j b h q = absurd cc
first_over index start last (e ∷ es) zero b h q =
    let same : e ≡ b = cc in
    ap (λ (x : Entry). is_less last x.first) (sym same) ∙ h.0.above
first_over index start last (e ∷ es) (suc j) b h q =
    less_trans last e.first b.first h.0.above (less_over e.first e.last b.first h.0.ordered (first_over index (start + e.len) e.last es j b h.1 q))

entries_apart : (index start : ℕ) (last : List ℕ) (es : List Entry) (i j : ℕ) (a b : Entry) → IsEntries index start last es → slice_get es i ≡ Some a → slice_get es j ≡ Some b → i < j → is_less a.last b.first ≡ true
entries_apart index start last [] i j a b h p q lt = absurd cc
entries_apart index start last (e ∷ es) i zero a b h p q lt = absurd (omega (arith, lt))
entries_apart index start last (e ∷ es) zero (suc j) a b h p q lt =
    let same : e ≡ a = cc in
    ap (λ (x : Entry). is_less x.last b.first) (sym same) ∙ first_over index (start + e.len) e.last es j b h.1 q
entries_apart index start last (e ∷ es) (suc i) (suc j) a b h p q lt = entries_apart index (start + e.len) e.last es i j a b h.1 p q (omega (arith, lt))

record Spans (key : List ℕ) (e : Entry) : Type 0 where
  first : is_less key e.first ≡ false
  last : is_less e.last key ≡ false

no_not : (b : Bool) → not b ≡ true → b ≡ false
no_not true h = sym h
no_not false h = refl

spans : (key : List ℕ) (e : Entry) → may_have (key_box key) e ≡ true → Spans key e
spans key e h =
    let parts = and_parts (meets_lo (key_box key).lo e.last) (meets_hi (key_box key).hi e.first) h in
    record {
      first = no_not (is_less key e.first) (sym (less_behind e.first key) ∙ sym (or_none (is_less e.first (key ++ 0 ∷ [])) false refl) ∙ parts.1);
      last = no_not (is_less e.last key) (ap not (sym (or_none (is_less e.last key) false refl)) ∙ parts.0);
    }

in_range : (t : Loaded) (key : List ℕ) (from to i : ℕ) (e : Entry) → IsIndexRange t (key_box key) from to → slice_get t.index i ≡ Some e → from ≤ i → i < to → Spans key e
in_range t key from to i e h q low high =
    let both = (h.exactly i e q).0 (low, high) in
    spans key e (and_parts (times_meet (key_box key) t.listed) (may_have (key_box key) e) both).1

-- one block at most spans a key
one_spans : (t : Loaded) (key : List ℕ) (from to i : ℕ) → IsEntries (end_of 8 t.index) 8 [] t.index → IsIndexRange t (key_box key) from to → from < i → i < to → ⊥
one_spans t key from to i entries h low high =
    let d : Entry = record { offset = 0; len = 0; count = 0; first = []; last = [] } in
    let within = h.within in
    let a = get_or t.index from d in
    let b = get_or t.index i d in
    let p : slice_get t.index from ≡ Some a = slice_get-get_or t.index from d (omega arith) in
    let q : slice_get t.index i ≡ Some b = slice_get-get_or t.index i d (omega arith) in
    let apart = entries_apart (end_of 8 t.index) 8 [] t.index from i a b entries p q low in
    let mine = in_range t key from to from a h p (omega arith) (omega arith) in
    let other = in_range t key from to i b h q (omega arith) high in
    let clash : true ≡ false = sym (less_over key a.last b.first mine.last apart) ∙ other.first in
    absurd cc

any_at : (p : Entry → Bool) (es : List Entry) (i : ℕ) (e : Entry) → slice_get es i ≡ Some e → p e ≡ true → list_any p es ≡ true
any_at p es i e q h = list_any_at p es i e (slice_get_within es i e q) (ap p (get_or_from_slice_get es i e e q) ∙ h)

-- a block of the range shows that the tablet may have the key
pub counted : (t : Loaded) (key : List ℕ) (from to : ℕ) → IsIndexRange t (key_box key) from to → from < to → admits t.filter (hash_of (stem_of key)) ≡ true → may_have_key key t ≡ true
counted t key from to h some filter =
    let d : Entry = record { offset = 0; len = 0; count = 0; first = []; last = [] } in
    let within = h.within in
    let e = get_or t.index from d in
    let q : slice_get t.index from ≡ Some e = slice_get-get_or t.index from d (omega arith) in
    let both = and_parts (times_meet (key_box key) t.listed) (may_have (key_box key) e) ((h.exactly from e q).0 (omega arith, some)) in
    let times = and_parts (leb (time_of key) t.listed.high) (leb t.listed.low (time_of key)) both.0 in
    let keys = spans key e both.1 in
    and_from ((leb t.listed.low (time_of key) && leb (time_of key) t.listed.high) && admits t.filter (hash_of (stem_of key))) (list_any (is_spanned key) t.index)
    (and_from (leb t.listed.low (time_of key) && leb (time_of key) t.listed.high) (admits t.filter (hash_of (stem_of key))) (and_from (leb t.listed.low (time_of key)) (leb (time_of key) t.listed.high) times.1 times.0) filter)
    (any_at (is_spanned key) t.index from e q (and_from (not (is_less key e.first)) (not (is_less e.last key)) (ap not keys.first) (ap not keys.last)))

-- ---- all blocks

pub block_of : (t : Loaded) (i : ℕ) (recs : List Record) → IsTold t → slice_get (blocks_in t) i ≡ Some recs → IsBlock recs
block_of t i recs told q = subst IsBlock (get_or_from_slice_get (blocks_in t) i recs recs q) (All-from_recursion IsBlock (blocks_in t) told.tablet.each i recs (slice_get_within (blocks_in t) i recs q))

pub all_lawful : (t : Loaded) → IsTold t → All IsRecord (records_in t)
all_lawful t told = all_joined IsRecord (blocks_in t) (λ i recs q. lawful recs (block_of t i recs told q).lawful)

pub within_listed : (t : Loaded) → IsTold t → All (Within (listed_totals t.listed)) (records_in t)
within_listed t told = All-from_recursion (Within (listed_totals t.listed)) (records_in t)
    (subst (λ (s : Totals). AllByRecursion (Within s) (records_in t)) told.totals (all_within (records_in t)))

-- no record has a key whose timestamp isn't one of the tablet's
pub none_at_that_time : (t : Loaded) (key : List ℕ) → IsTold t → (leb t.listed.low (time_of key) && leb (time_of key) t.listed.high) ≡ false → NoneHas (records_in t) key
none_at_that_time t key told out k d h same =
    let r = get_or (records_in t) k d in
    let time : r.ts ≡ time_of key = timed r (all_lawful t told k d h) ∙ ap time_of same in
    let clash : true ≡ false = sym (within_listed t told k d h).timed ∙ ap (λ n. leb t.listed.low n && leb n t.listed.high) time ∙ out in
    absurd cc

-- no record has a key that is too short
pub none_short : (t : Loaded) (key : List ℕ) → IsTold t → length key < 8 → NoneHas (records_in t) key
none_short t key told short = all_joined (λ r. r.key ≢ key) (blocks_in t) (λ i recs q k d h same.
    let law = lawful recs (block_of t i recs told q).lawful k d h in
    let long = ap length same in
    omega (arith, law.long_enough, long, short))

module _ (t : Loaded) (key : List ℕ) (from to : ℕ) (told : IsTold t)
    (outside : (i : ℕ) (recs : List Record) → slice_get (blocks_in t) i ≡ Some recs → ((i < from) ⊎ (to ≤ i)) → All (λ r. in_box (key_box key) r ≡ false) recs) where
  out : (i : ℕ) (recs : List Record) → slice_get (blocks_in t) i ≡ Some recs → ((i < from) ⊎ (to ≤ i)) → NoneHas recs key
  out i recs q far = none_in_box recs key (block_of t i recs told q) (outside i recs q far)

  -- no block spans the key
  pub none_in_none : to ≤ from → NoneHas (records_in t) key
  none_in_none empty = all_joined (λ r. r.key ≢ key) (blocks_in t) (λ i recs q. elim (cases_lt i from) [
    | inl low ↦ out i recs q (inl low)
    | inr up ↦ out i recs q (inr (omega (arith, up, empty)))
  ])

  -- one does, and doesn't have it
  pub none_in_one : IsEntries (end_of 8 t.index) 8 [] t.index → IsIndexRange t (key_box key) from to → (block : List Record) → slice_get (blocks_in t) from ≡ Some block → NoneHas block key → NoneHas (records_in t) key
  none_in_one entries h block here none = all_joined (λ r. r.key ≢ key) (blocks_in t) (λ i recs q. elim (cases_lt i from) [
    | inl low ↦ out i recs q (inl low)
    | inr up ↦ elim (cases_lt from i) [
      | inl far ↦ elim (cases_lt i to) [
        | inl within ↦ absurd (one_spans t key from to i entries h far within)
        | inr over ↦ out i recs q (inr over)
      ]
      | inr near ↦
          let s : i ≡ from = omega arith in
          let same : Some block ≡ Some recs = sym here ∙ ap (slice_get (blocks_in t)) (sym s) ∙ q in
          let is : block ≡ recs = cc in
          subst (λ (xs : List Record). NoneHas xs key) is none
    ]
  ])

-- what the block's look-up found, in the tablet
pub found_in : (t : Loaded) (key : List ℕ) (i : ℕ) (block : List Record) (found : Option ℕ) → slice_get (blocks_in t) i ≡ Some block → IfSome found (λ seq. HasNumber block key seq) → IfSome found (λ seq. HasNumber (records_in t) key seq)
found_in t key i block None q h = tt
found_in t key i block (Some seq) q h = any_joined (λ r. (r.seq ≡ seq) × (r.key ≡ key)) (blocks_in t) i block q h
