-- Of a whole stem the last block of the range has the latest record.
use Rattle.std.proofs.Common.{◌≡◌, ℕ, zero, suc, ◌+◌, ◌-◌, ◌<◌, true, leb, List, [], ◌∷◌, ◌++◌, length, take, drop, get_or, refl, sym, ap, subst, ◌∙◌, arith, inl, append-nil, length-append}
use Rattle.std.specs.Prelude.{Option, Some, slice_get}
use Rattle.std.specs.List.{All}
use Rattle.std.proofs.lemmas.Bool.{and_parts, and_from, leb-true, le-leb}
use Rattle.std.proofs.lemmas.List.{get_or-append-add}
use Rattle.std.proofs.lemmas.Option.{slice_get-get_or}
use Rattle.std.proofs.Math.ListN.{get_or-append}
use Rattle.lt_rec.specs.Bytes.{is_less, begins_with}
use Rattle.lt_rec.specs.Boxes.{meets_lo, meets_hi}
use Rattle.lt_rec.specs.Record.{Record, IsRecord, stem_of}
use Rattle.lt_rec.specs.Records.{joined}
use Rattle.lt_block.specs.Spelling.{IsBlock, spelling}
use Rattle.lt_layout.specs.Spelling.{Entry, entry_of, entries_of, first_key}
use Rattle.lt_tablet.specs.Loaded.{Loaded, IsTold, IsIndexRange, blocks_in, records_in, times_meet, may_have}
use Rattle.lt_probe.specs.Asked.{Question, prefix_box}
use Rattle.lt_probe.specs.Latest.{IsCovered, IsLatest, IsWholeIn, is_asked}
use Rattle.lt_probe.proofs.Keys.{all_lawful, block_of}
use Rattle.lt_probe.proofs.Later.{covered_trans, begins_not_less, or_begins}
use Rattle.lt_probe.proofs.Less.{less_not_back, not_less_trans}
use Rattle.lt_probe.proofs.Places.{rises_pairs}
use Rattle.lt_probe.proofs.Range.{joined_three, length-entries_of}
use Rattle.lt_probe.proofs.Times.{later_in_stem}

one_block : (blocks : List (List Record)) (i : ℕ) (block : List Record) → slice_get blocks i ≡ Some block → joined (take 1 (drop i blocks)) ≡ block
one_block [] i block q = absurd cc
one_block (b ∷ blocks) zero block q =
    let same : b ≡ block = cc in
    append-nil b ∙ same
one_block (b ∷ blocks) (suc i) block q = one_block blocks i block q

first_of : (at : ℕ) (blocks : List (List Record)) (i : ℕ) (e : Entry) (block : List Record) → slice_get (entries_of at blocks) i ≡ Some e → slice_get blocks i ≡ Some block → e.first ≡ first_key block
first_of at [] i e block p q = absurd cc
first_of at (b ∷ blocks) zero e block p q =
    let same : b ≡ block = cc in
    let entry : entry_of at b ≡ e = cc in
    ap (λ (x : Entry). x.first) (sym entry) ∙ ap first_key same
first_of at (b ∷ blocks) (suc i) e block p q = first_of (at + length (spelling b)) blocks i e block p q

first_is : (block : List Record) (d : Record) → 0 < length block → first_key block ≡ (get_or block 0 d).key
first_is [] d some = absurd (omega (arith, some))
first_is (r ∷ block) d some = refl

module _ (t : Loaded) (q : Question) (from to : ℕ) (told : IsTold t) (whole : IsWholeIn (records_in t) q.prefix)
    (range : IsIndexRange t (prefix_box q.prefix q.since) from to) (some : from < to) where
  abbrev blocks : List (List Record)
  blocks = blocks_in t

  abbrev last : List Record
  last = get_or blocks (to - 1) []

  there : slice_get blocks (to - 1) ≡ Some last
  there = slice_get-get_or blocks (to - 1) [] (omega (arith, ap length told.index_is, length-entries_of 8 blocks, range.within, some))

  last_is : IsBlock last
  last_is = block_of t (to - 1) last told there

  abbrev front : List Record
  front = joined (take (to - 1) blocks)

  abbrev behind : List Record
  behind = joined (drop (to - (to - 1)) (drop (to - 1) blocks))

  middle_is : joined (take (to - (to - 1)) (drop (to - 1) blocks)) ≡ last
  middle_is =
      let one : to - (to - 1) ≡ 1 = omega (arith, some) in
      ap (λ n. joined (take n (drop (to - 1) blocks))) one ∙ one_block blocks (to - 1) last there

  all_is : records_in t ≡ front ++ (last ++ behind)
  all_is = joined_three blocks (to - 1) (to - (to - 1)) ∙ ap (λ (xs : List Record). front ++ (xs ++ behind)) middle_is

  size : length (records_in t) ≡ length front + (length last + length behind)
  size = ap length all_is ∙ length-append front (last ++ behind) ∙ ap (λ n. length front + n) (length-append last behind)

  ahead : (k : ℕ) (d : Record) → k < length front → get_or (records_in t) k d ≡ get_or front k d
  ahead k d w = ap (λ xs. get_or xs k d) all_is ∙ get_or-append front (last ++ behind) d k w

  first_there : (d : Record) → get_or (records_in t) (length front + 0) d ≡ get_or last 0 d
  first_there d = ap (λ xs. get_or xs (length front + 0) d) all_is ∙ get_or-append-add front (last ++ behind) 0 d ∙ get_or-append last behind d 0 last_is.some

  -- the last block's first key is below the upper bound
  abbrev entry : Entry
  entry = get_or t.index (to - 1) (record { offset = 0; len = 0; count = 0; first = []; last = [] })

  entry_there : slice_get t.index (to - 1) ≡ Some entry
  entry_there = slice_get-get_or t.index (to - 1) (record { offset = 0; len = 0; count = 0; first = []; last = [] }) (omega (arith, range.within, some))

  entry_first : (d : Record) → entry.first ≡ (get_or last 0 d).key
  entry_first d = first_of 8 blocks (to - 1) entry last (ap (λ (es : List Entry). slice_get es (to - 1)) (sym told.index_is) ∙ entry_there) there ∙ first_is last d last_is.some

  below : meets_hi (prefix_box q.prefix q.since).hi entry.first ≡ true
  below =
      let both = (range.exactly (to - 1) entry entry_there).0 (omega (arith, some), omega (arith, some)) in
      let room = and_parts (times_meet (prefix_box q.prefix q.since) t.listed) (may_have (prefix_box q.prefix q.since) entry) both in
      (and_parts (meets_lo (prefix_box q.prefix q.since).lo entry.last) (meets_hi (prefix_box q.prefix q.since).hi entry.first) room.1).1

  -- where an earlier key begins with the prefix, so does that
  first_begins : (r : Record) (d : Record) → begins_with r.key q.prefix ≡ true → is_less r.key (get_or last 0 d).key ≡ true → begins_with (get_or last 0 d).key q.prefix ≡ true
  first_begins r d begins less =
      let f = get_or last 0 d in
      let over = not_less_trans q.prefix r.key f.key (begins_not_less r.key q.prefix begins) (less_not_back r.key f.key less) in
      or_begins (is_less f.key q.prefix) (begins_with f.key q.prefix) over (ap (meets_hi (prefix_box q.prefix q.since).hi) (sym (entry_first d)) ∙ below)

  pub covered_ahead : (best found : Option Record) → IsLatest (joined (take (to - (to - 1)) (drop (to - 1) blocks))) q.prefix q.since best found → All (λ r. is_asked q.prefix q.since r ≡ true → IsCovered found r) (joined (take (to - 1) blocks))
  covered_ahead best found h k d w asked =
      let latest = subst (λ (xs : List Record). IsLatest xs q.prefix q.since best found) middle_is h in
      let recs = records_in t in
      let r = get_or front k d in
      let f = get_or last 0 d in
      let parts = and_parts (begins_with r.key q.prefix) (leb q.since r.ts) asked in
      let place : k < length recs = omega (arith, size, w) in
      let first_place : length front + 0 < length recs = omega (arith, size, last_is.some) in
      let less : is_less r.key f.key ≡ true =
      ap (λ (x : Record). is_less x.key f.key) (sym (ahead k d w)) ∙ ap (λ (x : Record). is_less (get_or recs k d).key x.key) (sym (first_there d))
      ∙ rises_pairs [] recs told.tablet.rising k (length front + 0) d (omega (arith, w)) first_place in
      let begins = first_begins r d parts.0 less in
      let r_stem : stem_of r.key ≡ q.prefix = subst (λ (x : Record). begins_with x.key q.prefix ≡ true → stem_of x.key ≡ q.prefix) (ahead k d w) (whole k d place) parts.0 in
      let f_stem : stem_of f.key ≡ q.prefix = subst (λ (x : Record). begins_with x.key q.prefix ≡ true → stem_of x.key ≡ q.prefix) (first_there d) (whole (length front + 0) d first_place) begins in
      let later = later_in_stem r f q.prefix (subst IsRecord (ahead k d w) (all_lawful t told k d place)) (subst IsRecord (first_there d) (all_lawful t told (length front + 0) d first_place)) r_stem f_stem less in
      let since : leb q.since f.ts ≡ true = le-leb q.since f.ts (omega (arith, leb-true q.since r.ts parts.1, later)) in
      covered_trans found r f (inl later) (latest.over_all 0 d last_is.some (and_from (begins_with f.key q.prefix) (leb q.since f.ts) begins since))
