-- The latest record of one tablet.
use Rattle.std.proofs.Common.{◌≡◌, ◌⊎◌, ℕ, zero, suc, ◌+◌, ◌-◌, ◌^◌, ◌<◌, ◌≤◌, ◌||◌, ◌&&◌, Bool, true, false, not, cond, leb, List, [], ◌∷◌, length, take, drop, get_or, refl, sym, ap, subst, ◌∙◌, arith, inl, inr}
use Rattle.std.specs.Prelude.{Option, Some, None, Contains, count_by, min, slice_get}
use Rattle.std.specs.List.{All}
use Rattle.std.proofs.lemmas.Bool.{cases_lt, cases_Bool, and_parts, and_from, leb-true, le-leb, ltb-true}
use Rattle.std.proofs.lemmas.List.Elements.{All-from_recursion}
use Rattle.std.proofs.lemmas.List.Sums.{sum_by-cons}
use Rattle.lt_rec.specs.Bytes.{is_less, begins_with}
use Rattle.lt_rec.specs.Boxes.{in_box, meets_lo, meets_hi}
use Rattle.lt_rec.specs.Record.{Record, IsRecord}
use Rattle.lt_rec.specs.Records.{joined}
use Rattle.lt_bloom.specs.Filter.{admits}
use Rattle.lt_bloom.specs.Hash.{hash_of}
use Rattle.lt_layout.specs.Spelling.{Entry, hashes_from}
use Rattle.lt_tablet.specs.Loaded.{Loaded, IsTold, IsIndexRange, blocks_in, records_in, times_meet, may_have}
use Rattle.lt_probe.specs.Asked.{Question, admits_question, prefix_box}
use Rattle.lt_probe.specs.Counting.{blocks_asked, blocks_with_room, is_behind}
use Rattle.lt_probe.specs.Latest.{IsCovered, IsLatest, IsWholeIn, is_asked}
use Rattle.lt_probe.proofs.Keys.{block_of, within_listed}
use Rattle.lt_probe.proofs.Later.{latest_same, latest_around, begins_not_less, or_true}
use Rattle.lt_probe.proofs.Range.{joined_three, all_before, all_behind}
use Rattle.lt_probe.proofs.Stems.{hash_in}
use Rattle.lt_probe.proofs.WholeStem.{covered_ahead}

-- ---- all are earlier

pub behind : (t : Loaded) (prefix : List ℕ) (since : ℕ) (best : Option Record) → IsTold t → is_behind t best ≡ true → IsLatest (records_in t) prefix since best best
behind t prefix since None told h = absurd cc
behind t prefix since (Some b) told h = latest_same (records_in t) prefix since (Some b) (λ k d w asked.
    let high = leb-true (get_or (records_in t) k d).ts t.listed.high (and_parts (leb t.listed.low (get_or (records_in t) k d).ts) (leb (get_or (records_in t) k d).ts t.listed.high) (within_listed t told k d w).timed).1 in
    inl (omega (arith, high, ltb-true t.listed.high b.ts h)))

-- ---- the filter denies the stem

whole_by : (whole admitted : Bool) → not (cond whole admitted true) ≡ true → whole ≡ true
whole_by true admitted h = refl
whole_by false admitted h = absurd cc

pub denied_whole : (q : Question) (filter : List ℕ) → true ≡ not (admits_question q filter) → q.whole ≡ true
denied_whole q filter h = whole_by q.whole (admits filter (hash_of q.prefix)) (sym h)

pub denied : (t : Loaded) (prefix : List ℕ) (since : ℕ) (best : Option Record) → IsWholeIn (records_in t) prefix → (Contains (hashes_from None (records_in t)) (hash_of prefix) → ⊥) → IsLatest (records_in t) prefix since best best
denied t prefix since best whole none = latest_same (records_in t) prefix since best (λ k d w asked.
    let begins = (and_parts (begins_with (get_or (records_in t) k d).key prefix) (leb since (get_or (records_in t) k d).ts) asked).0 in
    absurd (none (subst (λ (s : List ℕ). Contains (hashes_from None (records_in t)) (hash_of s)) (whole k d w begins) (hash_in (records_in t) k d w))))

-- ---- the blocks outside the range

-- the first block that is read: of a whole stem the last of the range
pub record IsFirst (q : Question) (from to first : ℕ) : Type 0 where
  pub last : q.whole ≡ true → from < to → first + 1 ≡ to
  pub part : q.whole ≡ false → first ≡ from
  pub none : to ≤ from → first ≡ from

or_false : (b : Bool) → b ≡ false → not (b || false) ≡ true
or_false true h = absurd cc
or_false false h = refl

asked_in_box : (r : Record) (prefix : List ℕ) (since : ℕ) → IsRecord r → is_asked prefix since r ≡ true → in_box (prefix_box prefix since) r ≡ true
asked_in_box r prefix since law asked =
    let parts = and_parts (begins_with r.key prefix) (leb since r.ts) asked in
    let most : leb r.ts (2 ^ 64 - 1) ≡ true = le-leb r.ts (2 ^ 64 - 1) (omega (arith, law.moment)) in
    and_from (meets_lo (prefix_box prefix since).lo r.key && meets_hi (prefix_box prefix since).hi r.key) (leb since r.ts && leb r.ts (2 ^ 64 - 1))
    (and_from (meets_lo (prefix_box prefix since).lo r.key) (meets_hi (prefix_box prefix since).hi r.key)
    (or_false (is_less r.key prefix) (begins_not_less r.key prefix parts.0))
    (or_true (is_less r.key prefix) (begins_with r.key prefix) parts.0))
    (and_from (leb since r.ts) (leb r.ts (2 ^ 64 - 1)) parts.1 most)

module _ (t : Loaded) (q : Question) (from to : ℕ) (told : IsTold t) (ordered : from ≤ to)
    (outside : (i : ℕ) (recs : List Record) → slice_get (blocks_in t) i ≡ Some recs → ((i < from) ⊎ (to ≤ i)) → All (λ r. in_box (prefix_box q.prefix q.since) r ≡ false) recs) where
  abbrev NotAsked : Option Record → Record → Type 0
  NotAsked found r = is_asked q.prefix q.since r ≡ true → IsCovered found r

  none_outside : (found : Option Record) (i : ℕ) (recs : List Record) → slice_get (blocks_in t) i ≡ Some recs → ((i < from) ⊎ (to ≤ i)) → All (NotAsked found) recs
  none_outside found i recs r far k d w asked =
      let law = All-from_recursion IsRecord recs (block_of t i recs told r).lawful k d w in
      let clash : true ≡ false = sym (asked_in_box (get_or recs k d) q.prefix q.since law asked) ∙ outside i recs r far k d w in
      absurd cc

  -- the blocks from `first` on are read, and none before it has one after what was found
  latest_from : (first : ℕ) (best found : Option Record) → first ≤ to → IsLatest (joined (take (to - first) (drop first (blocks_in t)))) q.prefix q.since best found → All (NotAsked found) (joined (take first (blocks_in t))) → IsLatest (records_in t) q.prefix q.since best found
  latest_from first best found low h ahead =
      let blocks = blocks_in t in
      let after = all_behind (NotAsked found) blocks first to low (λ i recs r far. none_outside found i recs r (inr far)) in
      subst (λ (recs : List Record). IsLatest recs q.prefix q.since best found) (sym (joined_three blocks first (to - first)))
      (latest_around (joined (take first blocks)) (joined (take (to - first) (drop first blocks))) (joined (drop (to - first) (drop first blocks))) q.prefix q.since best found h ahead after)

  all_read : (first : ℕ) (best found : Option Record) → first ≡ from → IsLatest (joined (take (to - first) (drop first (blocks_in t)))) q.prefix q.since best found → IsLatest (records_in t) q.prefix q.since best found
  all_read first best found same h =
      latest_from first best found (omega (arith, same, ordered)) h (all_before (NotAsked found) (blocks_in t) first (λ i recs r near. none_outside found i recs r (inl (omega (arith, near, same)))))

  last_read : (first : ℕ) (best found : Option Record) → first + 1 ≡ to → from < to → IsWholeIn (records_in t) q.prefix → IsIndexRange t (prefix_box q.prefix q.since) from to → IsLatest (joined (take (to - first) (drop first (blocks_in t)))) q.prefix q.since best found → IsLatest (records_in t) q.prefix q.since best found
  last_read first best found same some whole range h =
      let last : first ≡ to - 1 = omega (arith, same) in
      let read = subst (λ n. IsLatest (joined (take (to - n) (drop n (blocks_in t)))) q.prefix q.since best found) last h in
      latest_from (to - 1) best found (omega (arith, some)) read (covered_ahead t q from to told whole range some best found read)

  pub latest_all : (first : ℕ) → IsIndexRange t (prefix_box q.prefix q.since) from to → IsFirst q from to first → (q.whole ≡ true → IsWholeIn (records_in t) q.prefix) → (best found : Option Record) → IsLatest (joined (take (to - first) (drop first (blocks_in t)))) q.prefix q.since best found → IsLatest (records_in t) q.prefix q.since best found
  latest_all first range is whole best found h = elim (cases_lt from to) [
    | inl some ↦ elim (cases_Bool q.whole) [
      | inl on ↦ last_read first best found (is.last on some) some (whole on) range h
      | inr off ↦ all_read first best found (is.part off) h
    ]
    | inr none ↦ all_read first best found (is.none none) h
  ]

-- ---- how many blocks there are in the range

abbrev if_one : Bool → ℕ
if_one b = cond b 1 0

count_cons : (p : Entry → Bool) (x : Entry) (xs : List Entry) → count_by p (x ∷ xs) ≡ cond (p x) 1 0 + count_by p xs
count_cons p x xs = sum_by-cons (λ e. cond (p e) 1 0) x xs

count_range : (p : Entry → Bool) (xs : List Entry) (from to : ℕ) → to ≤ length xs → ((i : ℕ) (x : Entry) → slice_get xs i ≡ Some x → from ≤ i → i < to → p x ≡ true) → to - from ≤ count_by p xs
count_range p [] from to within each = omega (arith, within)
count_range p (x ∷ xs) from zero within each = omega arith
count_range p (x ∷ xs) zero (suc to) within each =
    let one = ap (λ b. if_one b) (each 0 x refl (omega arith) (omega arith)) in
    let rest = count_range p xs 0 to (omega (arith, within)) (λ i y q low high. each (suc i) y q (omega arith) (omega (arith, high))) in
    omega (arith, one, rest, count_cons p x xs)
count_range p (x ∷ xs) (suc from) (suc to) within each =
    let rest = count_range p xs from to (omega (arith, within)) (λ i y q low high. each (suc i) y q (omega (arith, low)) (omega (arith, high))) in
    omega (arith, rest, count_cons p x xs)

one_at_most : (whole : Bool) (n from to first : ℕ) → to - from ≤ n → (whole ≡ true → from < to → first + 1 ≡ to) → (whole ≡ false → first ≡ from) → (to ≤ from → first ≡ from) → to - first ≤ cond whole (min 1 n) n
one_at_most false n from to first counted last part none = omega (arith, counted, part refl)
one_at_most true zero from to first counted last part none = omega (arith, counted, none (omega (arith, counted)))
one_at_most true (suc n) from to first counted last part none = elim (cases_lt from to) [
  | inl some ↦ omega (arith, last refl some)
  | inr empty ↦ omega (arith, none empty, empty)
]

pub blocks_counted : (t : Loaded) (q : Question) (best : Option Record) (from to first : ℕ) → IsIndexRange t (prefix_box q.prefix q.since) from to → IsFirst q from to first → is_behind t best ≡ false → admits_question q t.filter ≡ true → to - first ≤ blocks_asked q best t
blocks_counted t q best from to first h is near admitted =
    let p = λ (e : Entry). times_meet (prefix_box q.prefix q.since) t.listed && may_have (prefix_box q.prefix q.since) e in
    let asked : (not (is_behind t best) && admits_question q t.filter) ≡ true = and_from (not (is_behind t best)) (admits_question q t.filter) (ap not near) admitted in
    let counted : to - from ≤ blocks_with_room q t = count_range p t.index from to h.within (λ i e r low high. (h.exactly i e r).0 (low, high)) in
    subst (λ b. to - first ≤ cond b (cond q.whole (min 1 (blocks_with_room q t)) (blocks_with_room q t)) 0) (sym asked)
    (one_at_most q.whole (blocks_with_room q t) from to first counted is.last is.part is.none)
