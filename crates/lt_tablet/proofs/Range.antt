-- Which blocks of a tablet may have records of a box.
use Rattle.std.proofs.Common.{◌≡◌, ◌⊎◌, ℕ, zero, suc, ◌+◌, ◌<◌, ◌≤◌, Bool, true, false, not, leb, ◌&&◌, List, [], ◌∷◌, length, get_or, Ordering, Less, Equal, Greater, refl, sym, ap, subst, ◌∙◌, arith, inl, inr}
use Rattle.std.specs.Prelude.{slice_get, Option, Some, None, All, min}
use Rattle.std.specs.List.{AllByRecursion}
use Rattle.std.specs.List.Sorted.{IsPartitionedBy, IsPartitionPoint}
use Rattle.std.specs.Ordering.{is_lt, is_eq, nat_cmp, ordering_reverse}
use Rattle.std.specs.Cmp.Lexicographic.{slice_cmp, nat_list_cmp_total}
use Rattle.std.proofs.lemmas.Bool.{cases_Bool, cases_lt, leb-true, and_parts, and_from}
use Rattle.std.proofs.lemmas.Option.{get_or_from_slice_get, slice_get_within}
use Rattle.std.proofs.lemmas.Map.Text.{is_eq-slice_cmp}
use Rattle.lt_rec.specs.Bytes.{is_less}
use Rattle.lt_rec.specs.Boxes.{is_below, meets_lo, meets_hi, in_box}
use Rattle.lt_rec.specs.Record.{Record, IsRecord}
use Rattle.lt_rec.specs.Records.{joined}
use Rattle.lt_rec.specs.declared.cut.Cut.{Cut}
use Rattle.lt_rec.specs.declared.raw_box.RawBox.{RawBox}
use Rattle.lt_block.specs.Spelling.{spelling, Rises, last_key, IsBlock}
use Rattle.lt_block.proofs.Cuts.{down}
use Rattle.lt_layout.specs.Spelling.{Entry, Totals, first_key, entries_of, listed_totals}
use Rattle.lt_layout.specs.Entries.{IsEntries}
use Rattle.lt_tablet.specs.Loaded.{Loaded, IsTold, blocks_in, times_meet, may_have, IsIndexRange}
use Rattle.lt_layout.proofs.Asked.{same_bytes}
use Rattle.lt_layout.proofs.Sums.{Within, all_split, all_within, less_not, last_not_below}

-- ---- keys below a cut

cmp_equal : (a b : List ℕ) → slice_cmp nat_cmp a b ≡ Equal → a ≡ b
cmp_equal a b e = same_bytes a b (sym (is_eq-slice_cmp a b) ∙ ap is_eq e)

less_nil : (a : List ℕ) → 0 < length a → is_less [] a ≡ true
less_nil [] some = absurd (omega (arith, some))
less_nil (x ∷ a) some = refl

abbrev of_key : List ℕ → Record
of_key key = record { key = key; ts = 0; seq = 0; ver = 0; body = [] }

-- what isn't above a key below the cut is below it
pub down_closed : (cut : Cut) (a b : List ℕ) → 0 < length a → is_less b a ≡ false → is_below cut b ≡ true → is_below cut a ≡ true
down_closed cut a b some ordered h = by_order (slice_cmp nat_cmp a b) refl
  where
    by_order : (o : Ordering) → slice_cmp nat_cmp a b ≡ o → is_below cut a ≡ true
    by_order Less e = down cut [] (of_key a ∷ (of_key b ∷ [])) 0 1 (less_nil a some, (ap is_lt e, tt)) (omega arith) (omega arith) h
    by_order Equal e = ap (is_below cut) (cmp_equal a b e) ∙ h
    by_order Greater e =
        let above : is_less b a ≡ true = ap is_lt (nat_list_cmp_total.antisymm b a ∙ ap ordering_reverse e) in
        let clash : true ≡ false = sym above ∙ ordered in
        absurd cc

pub up_closed : (cut : Cut) (a b : List ℕ) → 0 < length a → is_less b a ≡ false → is_below cut a ≡ false → is_below cut b ≡ false
up_closed cut a b some ordered h =
    elim (cases_Bool (is_below cut b)) [
      | inl t ↦ let clash : true ≡ false = sym (down_closed cut a b some ordered t) ∙ h in absurd cc
      | inr f ↦ f
    ]

-- ---- the keys of entries

first_first : (cut : Cut) (index begin : ℕ) (last : List ℕ) (x : Entry) (es : List Entry) (j : ℕ) (d : Entry) → IsEntries index begin last (x ∷ es) → j < length (x ∷ es) → is_below cut (get_or (x ∷ es) j d).first ≡ true → is_below cut x.first ≡ true
first_first cut index begin last x es zero d h lt b = b
first_first cut index begin last x [] (suc j) d h lt b = absurd (omega (arith, lt))
first_first cut index begin last x (y ∷ es) (suc j) d h lt b =
    let next = first_first cut index (begin + x.len) x.last y es j d h.1 (omega (arith, lt)) b in
    let mine = down_closed cut x.last y.first (omega (arith, h.0.final.long_enough)) (less_not x.last y.first h.1.0.above) next in
    down_closed cut x.first x.last (omega (arith, h.0.first.long_enough)) h.0.ordered mine

first_from_last : (cut : Cut) (index begin : ℕ) (last : List ℕ) (es : List Entry) (j : ℕ) (d : Entry) → IsEntries index begin last es → j < length es → is_below cut (get_or es j d).last ≡ true → is_below cut (get_or es j d).first ≡ true
first_from_last cut index begin last [] j d h lt b = absurd (omega (arith, lt))
first_from_last cut index begin last (x ∷ es) zero d h lt b = down_closed cut x.first x.last (omega (arith, h.0.first.long_enough)) h.0.ordered b
first_from_last cut index begin last (x ∷ es) (suc j) d h lt b = first_from_last cut index (begin + x.len) x.last es j d h.1 (omega (arith, lt)) b

last_last : (cut : Cut) (index begin : ℕ) (last : List ℕ) (x : Entry) (es : List Entry) (j : ℕ) (d : Entry) → IsEntries index begin last (x ∷ es) → j < length (x ∷ es) → is_below cut (get_or (x ∷ es) j d).last ≡ true → is_below cut x.last ≡ true
last_last cut index begin last x es zero d h lt b = b
last_last cut index begin last x [] (suc j) d h lt b = absurd (omega (arith, lt))
last_last cut index begin last x (y ∷ es) (suc j) d h lt b =
    let next = first_first cut index (begin + x.len) x.last y es j d h.1 (omega (arith, lt)) (first_from_last cut index (begin + x.len) x.last (y ∷ es) j d h.1 (omega (arith, lt)) b) in
    down_closed cut x.last y.first (omega (arith, h.0.final.long_enough)) (less_not x.last y.first h.1.0.above) next

firsts_down : (cut : Cut) (index begin : ℕ) (last : List ℕ) (es : List Entry) (i j : ℕ) (d : Entry) → IsEntries index begin last es → i ≤ j → j < length es → is_below cut (get_or es j d).first ≡ true → is_below cut (get_or es i d).first ≡ true
firsts_down cut index begin last [] i j d h le lt b = absurd (omega (arith, lt))
firsts_down cut index begin last (x ∷ es) zero j d h le lt b = first_first cut index begin last x es j d h lt b
firsts_down cut index begin last (x ∷ es) (suc i) zero d h le lt b = absurd (omega (arith, le))
firsts_down cut index begin last (x ∷ es) (suc i) (suc j) d h le lt b = firsts_down cut index (begin + x.len) x.last es i j d h.1 (omega (arith, le)) (omega (arith, lt)) b

lasts_down : (cut : Cut) (index begin : ℕ) (last : List ℕ) (es : List Entry) (i j : ℕ) (d : Entry) → IsEntries index begin last es → i ≤ j → j < length es → is_below cut (get_or es j d).last ≡ true → is_below cut (get_or es i d).last ≡ true
lasts_down cut index begin last [] i j d h le lt b = absurd (omega (arith, lt))
lasts_down cut index begin last (x ∷ es) zero j d h le lt b = last_last cut index begin last x es j d h lt b
lasts_down cut index begin last (x ∷ es) (suc i) zero d h le lt b = absurd (omega (arith, le))
lasts_down cut index begin last (x ∷ es) (suc i) (suc j) d h le lt b = lasts_down cut index (begin + x.len) x.last es i j d h.1 (omega (arith, le)) (omega (arith, lt)) b

twice : (b : Bool) → not (not b) ≡ b
twice true = refl
twice false = refl

pub hi_parts : (hi : Option Cut) (index begin : ℕ) (last : List ℕ) (es : List Entry) → IsEntries index begin last es → IsPartitionedBy (λ e. meets_hi hi e.first) es
hi_parts None index begin last es h i j d le lt b = refl
hi_parts (Some cut) index begin last es h i j d le lt b = firsts_down cut index begin last es i j d h le lt b

pub lo_parts : (lo : Option Cut) (index begin : ℕ) (last : List ℕ) (es : List Entry) → IsEntries index begin last es → IsPartitionedBy (λ e. not (meets_lo lo e.last)) es
lo_parts None index begin last es h i j d le lt b = b
lo_parts (Some cut) index begin last es h i j d le lt b = twice (is_below cut (get_or es i d).last) ∙ lasts_down cut index begin last es i j d h le lt (sym (twice (is_below cut (get_or es j d).last)) ∙ b)

-- ---- the range

not_is_true : (b : Bool) → not b ≡ false → b ≡ true
not_is_true true h = refl
not_is_true false h = absurd cc

not_is_false : (b : Bool) → not b ≡ true → b ≡ false
not_is_false true h = absurd cc
not_is_false false h = refl

clash : {A : Type 0} (b : Bool) → b ≡ true → b ≡ false → A
clash true h k = absurd cc
clash false h k = absurd cc

pub exactly : (t : Loaded) (raw_box : RawBox) (from to : ℕ) → times_meet raw_box t.listed ≡ true → IsPartitionPoint (λ e. not (meets_lo raw_box.lo e.last) ≡ true) (λ e. not (meets_lo raw_box.lo e.last) ≡ false) t.index from → IsPartitionPoint (λ e. meets_hi raw_box.hi e.first ≡ true) (λ e. meets_hi raw_box.hi e.first ≡ false) t.index to → to ≤ length t.index → IsIndexRange t raw_box (min from to) to
exactly t raw_box from to times low high le = record {
  ordered = omega arith;
  within = le;
  exactly = λ i e q.
      let lt = slice_get_within t.index i e q in
      let here : get_or t.index i e ≡ e = get_or_from_slice_get t.index i e e q in (
        λ h.
            let last : meets_lo raw_box.lo e.last ≡ true = not_is_true (meets_lo raw_box.lo e.last) (ap (λ (x : Entry). not (meets_lo raw_box.lo x.last)) (sym here) ∙ low.1 i e (omega (arith, h.0, h.1)) lt) in
            let first : meets_hi raw_box.hi e.first ≡ true = ap (λ (x : Entry). meets_hi raw_box.hi x.first) (sym here) ∙ high.0 i e (omega arith) h.1 in
            and_from (times_meet raw_box t.listed) (may_have raw_box e) times (and_from (meets_lo raw_box.lo e.last) (meets_hi raw_box.hi e.first) last first),
        λ h.
            let both = and_parts (times_meet raw_box t.listed) (may_have raw_box e) h in
            let keys = and_parts (meets_lo raw_box.lo e.last) (meets_hi raw_box.hi e.first) both.1 in
            let above : from ≤ i = elim (cases_lt i from) [
              | inl below ↦ clash (meets_lo raw_box.lo e.last) keys.0 (not_is_false (meets_lo raw_box.lo e.last) (ap (λ (x : Entry). not (meets_lo raw_box.lo x.last)) (sym here) ∙ low.0 i e (omega arith) below))
              | inr ge ↦ ge
            ] in
            let below : i < to = elim (cases_lt i to) [
              | inl less ↦ less
              | inr ge ↦ clash (meets_hi raw_box.hi e.first) keys.1 (ap (λ (x : Entry). meets_hi raw_box.hi x.first) (sym here) ∙ high.1 i e ge lt)
            ] in
            (omega (arith, above), below),
      );
}

-- ---- no block outside it has a record of the box

abbrev IsOut : RawBox → Record → Type 0
IsOut raw_box r = in_box raw_box r ≡ false

every : (P : Record → Type 0) (recs : List Record) → AllByRecursion P recs → All P recs
every P [] h k d lt = absurd (omega (arith, lt))
every P (r ∷ recs) h zero d lt = h.0
every P (r ∷ recs) h (suc k) d lt = every P recs h.1 k d (omega (arith, lt))

all_below : (cut : Cut) (last : List ℕ) (recs : List Record) → Rises last recs → AllByRecursion (λ r. 8 ≤ length r.key) recs → is_below cut (last_key last recs) ≡ true → AllByRecursion (λ r. is_below cut r.key ≡ true) recs
all_below cut last [] rising long h = tt
all_below cut last (r ∷ recs) rising long h =
    (down_closed cut r.key (last_key r.key recs) (omega (arith, long.0)) (last_not_below r.key recs rising.1) h, all_below cut r.key recs rising.1 long.1 h)

none_below : (cut : Cut) (key : List ℕ) (recs : List Record) → 0 < length key → Rises key recs → AllByRecursion (λ r. 8 ≤ length r.key) recs → is_below cut key ≡ false → AllByRecursion (λ r. is_below cut r.key ≡ false) recs
none_below cut key [] some rising long h = tt
none_below cut key (r ∷ recs) some rising long h =
    let here = up_closed cut key r.key some (less_not key r.key rising.0) h in
    (here, none_below cut r.key recs (omega (arith, long.0)) rising.1 long.1 here)

out_low : (raw_box : RawBox) (cut : Cut) (r : Record) → raw_box.lo ≡ Some cut → is_below cut r.key ≡ true → IsOut raw_box r
out_low raw_box cut r lo h =
    let low : meets_lo raw_box.lo r.key ≡ false = ap (λ (c : Option Cut). meets_lo c r.key) lo ∙ ap not h in
    ap (λ (b : Bool). (b && meets_hi raw_box.hi r.key) && (leb raw_box.from r.ts && leb r.ts raw_box.to)) low

out_high : (raw_box : RawBox) (cut : Cut) (r : Record) → raw_box.hi ≡ Some cut → is_below cut r.key ≡ false → IsOut raw_box r
out_high raw_box cut r hi h =
    let high : meets_hi raw_box.hi r.key ≡ false = ap (λ (c : Option Cut). meets_hi c r.key) hi ∙ h in
    ap (λ (b : Bool). (meets_lo raw_box.lo r.key && b) && (leb raw_box.from r.ts && leb r.ts raw_box.to)) high ∙ none (meets_lo raw_box.lo r.key) (leb raw_box.from r.ts && leb r.ts raw_box.to)
  where
    none : (a b : Bool) → ((a && false) && b) ≡ false
    none true b = refl
    none false b = refl

each_out : (raw_box : RawBox) (P : Record → Type 0) → ((r : Record) → P r → IsOut raw_box r) → (recs : List Record) → AllByRecursion P recs → AllByRecursion (IsOut raw_box) recs
each_out raw_box P f [] h = tt
each_out raw_box P f (r ∷ recs) h = (f r h.0, each_out raw_box P f recs h.1)

long_keys : (recs : List Record) → IsBlock recs → AllByRecursion (λ r. 8 ≤ length r.key) recs
long_keys recs h = from recs h.lawful
  where
    from : (rs : List Record) → AllByRecursion IsRecord rs → AllByRecursion (λ r. 8 ≤ length r.key) rs
    from [] k = tt
    from (r ∷ rs) k = (k.0.long_enough, from rs k.1)

below_block : (raw_box : RawBox) (recs : List Record) → IsBlock recs → meets_lo raw_box.lo (last_key [] recs) ≡ false → AllByRecursion (IsOut raw_box) recs
below_block raw_box recs h low = by raw_box.lo refl low
  where
    by : (lo : Option Cut) → raw_box.lo ≡ lo → meets_lo lo (last_key [] recs) ≡ false → AllByRecursion (IsOut raw_box) recs
    by None e l = absurd cc
    by (Some cut) e l = each_out raw_box (λ r. is_below cut r.key ≡ true) (λ r b. out_low raw_box cut r e b) recs (all_below cut [] recs h.rising (long_keys recs h) (not_is_true (is_below cut (last_key [] recs)) l))

above_block : (raw_box : RawBox) (recs : List Record) → IsBlock recs → meets_hi raw_box.hi (first_key recs) ≡ false → AllByRecursion (IsOut raw_box) recs
above_block raw_box recs h high = by raw_box.hi refl recs h high
  where
    by : (hi : Option Cut) → raw_box.hi ≡ hi → (rs : List Record) → IsBlock rs → meets_hi hi (first_key rs) ≡ false → AllByRecursion (IsOut raw_box) rs
    by None e rs k l = absurd cc
    by (Some cut) e [] k l = tt
    by (Some cut) e (r ∷ rs) k l =
        each_out raw_box (λ x. is_below cut x.key ≡ false) (λ x b. out_high raw_box cut x e b) (r ∷ rs) (l, none_below cut r.key rs (omega (arith, k.lawful.0.long_enough)) k.rising.1 (long_keys (r ∷ rs) k).1 l)

-- a block and its entry
record EntryOf (es : List Entry) (i : ℕ) (recs : List Record) : Type 0 where
  entry : Entry
  there : slice_get es i ≡ Some entry
  first : entry.first ≡ first_key recs
  last : entry.last ≡ last_key [] recs
  block : IsBlock recs

entry_of_block : (begin : ℕ) (blocks : List (List Record)) (i : ℕ) (recs : List Record) → AllByRecursion IsBlock blocks → slice_get blocks i ≡ Some recs → EntryOf (entries_of begin blocks) i recs
entry_of_block begin [] i recs each q = absurd cc
entry_of_block begin (b ∷ blocks) zero recs each q =
    let same : b ≡ recs = cc in
    subst (EntryOf (entries_of begin (b ∷ blocks)) 0) same (record { entry = record { offset = begin; len = length (spelling b); count = length b; first = first_key b; last = last_key [] b }; there = refl; first = refl; last = refl; block = each.0 })
entry_of_block begin (b ∷ blocks) (suc i) recs each q =
    let rest = entry_of_block (begin + length (spelling b)) blocks i recs each.1 q in
    record { entry = rest.entry; there = rest.there; first = rest.first; last = rest.last; block = rest.block }

pub outside : (t : Loaded) (raw_box : RawBox) (from to i : ℕ) (recs : List Record) → IsTold t → IsPartitionPoint (λ e. not (meets_lo raw_box.lo e.last) ≡ true) (λ e. not (meets_lo raw_box.lo e.last) ≡ false) t.index from → IsPartitionPoint (λ e. meets_hi raw_box.hi e.first ≡ true) (λ e. meets_hi raw_box.hi e.first ≡ false) t.index to → slice_get (blocks_in t) i ≡ Some recs → ((i < min from to) ⊎ (to ≤ i)) → All (λ r. in_box raw_box r ≡ false) recs
outside t raw_box from to i recs h low high q out =
    let e = entry_of_block 8 (blocks_in t) i recs h.tablet.each q in
    let there : slice_get t.index i ≡ Some e.entry = ap (λ (es : List Entry). slice_get es i) h.index_is ∙ e.there in
    let lt = slice_get_within t.index i e.entry there in
    let here : get_or t.index i e.entry ≡ e.entry = get_or_from_slice_get t.index i e.entry e.entry there in
    every (IsOut raw_box) recs (elim out [
      | inl below ↦
          below_block raw_box recs e.block (ap (meets_lo raw_box.lo) (sym e.last)
          ∙ not_is_false (meets_lo raw_box.lo e.entry.last) (ap (λ (x : Entry). not (meets_lo raw_box.lo x.last)) (sym here) ∙ low.0 i e.entry (omega arith) (omega (arith, below))))
      | inr above ↦
          above_block raw_box recs e.block (ap (meets_hi raw_box.hi) (sym e.first) ∙ (ap (λ (x : Entry). meets_hi raw_box.hi x.first) (sym here) ∙ high.1 i e.entry above lt))
    ])

-- ---- no timestamp of the tablet is one of the box's

within_block : (t : Totals) (blocks : List (List Record)) (i : ℕ) (recs : List Record) → AllByRecursion (Within t) (joined blocks) → slice_get blocks i ≡ Some recs → AllByRecursion (Within t) recs
within_block t [] i recs h q = absurd cc
within_block t (b ∷ blocks) zero recs h q = let same : b ≡ recs = cc in subst (AllByRecursion (Within t)) same (all_split (Within t) b (joined blocks) h).0
within_block t (b ∷ blocks) (suc i) recs h q = within_block t blocks i recs (all_split (Within t) b (joined blocks) h).1 q

out_time : (raw_box : RawBox) (t : Totals) (r : Record) → ((t.high < raw_box.from) ⊎ (raw_box.to < t.low)) → Within t r → IsOut raw_box r
out_time raw_box t r far h =
    let both = and_parts (leb t.low r.ts) (leb r.ts t.high) h.timed in
    let low = leb-true _ _ both.0 in
    let high = leb-true _ _ both.1 in
    let times : (leb raw_box.from r.ts && leb r.ts raw_box.to) ≡ false = elim far [
      | inl late ↦ ap (λ (b : Bool). b && leb r.ts raw_box.to) (not_leb raw_box.from r.ts (omega (arith, late, high)))
      | inr early ↦ ap (λ (b : Bool). leb raw_box.from r.ts && b) (not_leb r.ts raw_box.to (omega (arith, early, low))) ∙ and_no (leb raw_box.from r.ts)
    ] in
    ap (λ (b : Bool). (meets_lo raw_box.lo r.key && meets_hi raw_box.hi r.key) && b) times ∙ and_no (meets_lo raw_box.lo r.key && meets_hi raw_box.hi r.key)
  where
    and_no : (b : Bool) → (b && false) ≡ false
    and_no true = refl
    and_no false = refl

    not_leb : (x y : ℕ) → y < x → leb x y ≡ false
    not_leb x y lt = elim (cases_Bool (leb x y)) [ inl t ↦ absurd (omega (arith, lt, leb-true x y t)) | inr f ↦ f ]

pub outside_times : (t : Loaded) (raw_box : RawBox) (i : ℕ) (recs : List Record) → IsTold t → ((t.listed.high < raw_box.from) ⊎ (raw_box.to < t.listed.low)) → slice_get (blocks_in t) i ≡ Some recs → All (λ r. in_box raw_box r ≡ false) recs
outside_times t raw_box i recs h far q =
    let all : AllByRecursion (Within (listed_totals t.listed)) (joined (blocks_in t)) = subst (λ (s : Totals). AllByRecursion (Within s) (joined (blocks_in t))) h.totals (all_within (joined (blocks_in t))) in
    every (IsOut raw_box) recs (each_out raw_box (Within (listed_totals t.listed)) (λ r w. out_time raw_box (listed_totals t.listed) r far w) recs (within_block (listed_totals t.listed) (blocks_in t) i recs all q))
