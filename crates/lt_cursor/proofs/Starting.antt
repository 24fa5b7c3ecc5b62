-- The sources of a cursor that begins.
use Rattle.std.proofs.Common.{◌≡◌, ◌≢◌, ℕ, ◌-◌, ◌<◌, Bool, true, false, List, [], ◌∷◌, ◌++◌, length, map, filter, reverse, get_or, refl, sym, ap, subst, ◌∙◌, inl, arith, append-nil}
use Rattle.std.specs.List.{All, AllByRecursion, Contains}
use Rattle.std.specs.List.Sorted.{IsPermutation}
use Rattle.std.proofs.lemmas.List.{length-reverse, get_or-reverse, reverse-append}
use Rattle.std.proofs.lemmas.List.Elements.{filter-append, All-append, All-map}
use Rattle.std.proofs.lemmas.List.Kept.{AllPairs-filter}
use Rattle.std.proofs.lemmas.List.Sorted.{IsPermutation-refl, IsPermutation-sym, IsPermutation-trans, IsPermutation-append, IsPermutation-reverse}
use Rattle.lt_rec.specs.Bytes.{is_less}
use Rattle.lt_rec.specs.Boxes.{in_box}
use Rattle.lt_rec.specs.Record.{Record}
use Rattle.lt_rec.specs.Records.{joined}
use Rattle.lt_rec.specs.declared.raw_box.RawBox.{RawBox}
use Rattle.lt_block.specs.Spelling.{Rises}
use Rattle.lt_kway.specs.Heads.{is_before}
use Rattle.lt_tablet.specs.Loaded.{Loaded, records_in}
use Rattle.lt_cursor.specs.Boxed.{gathered}
use Rattle.lt_cursor.specs.Opening.{lefts_of_tablets, lefts_of_lists, AreInOrder}
use Rattle.lt_cursor.specs.Order.{in_order, IsInOrder, HaveDistinctKeys, arranged}
use Rattle.lt_cursor.specs.Merging.{all_left, IsSound}
use Rattle.lt_cursor.proofs.Behind.{joined-append}
use Rattle.lt_cursor.proofs.Keys.{before_trans}
use Rattle.lt_cursor.proofs.Sorting.{Pairs, from_pairs, each_implies, distinct_moved, arranged_ordered, arranged_moves}

-- ---- a tablet's records are in order

above_all : (last : List ℕ) (recs : List Record) → Rises last recs → AllByRecursion (λ r. is_less last r.key ≡ true) recs
above_all last [] h = tt
above_all last (r ∷ recs) h = (h.0, each_implies (λ s. is_less r.key s.key ≡ true) (λ s. is_less last s.key ≡ true) (λ s k. before_trans false last r.key s.key h.0 k) recs (above_all r.key recs h.1))

rising_pairs : (last : List ℕ) (recs : List Record) → Rises last recs → Pairs (λ r s. is_less r.key s.key ≡ true) recs
rising_pairs last [] h = tt
rising_pairs last (r ∷ recs) h = (above_all r.key recs h.1, rising_pairs r.key recs h.1)

pub rising_in_order : (down : Bool) (recs : List Record) → Rises [] recs → IsInOrder down (in_order down recs)
rising_in_order false recs h = from_pairs (λ r s. is_less r.key s.key ≡ true) recs (rising_pairs [] recs h)
rising_in_order true recs h =
    let up = from_pairs (λ r s. is_less r.key s.key ≡ true) recs (rising_pairs [] recs h) in
    λ i j d lt w.
    let size = length-reverse recs in
    rw (get_or-reverse recs i d (omega arith), get_or-reverse recs j d (omega arith)) (up (length recs - 1 - j) (length recs - 1 - i) d (omega arith) (omega arith))

-- ---- what is left of all sources are the box's records

turned_one : (x : Record) (xs : List Record) → reverse (x ∷ xs) ≡ reverse xs ++ x ∷ []
turned_one x xs = reverse-append (x ∷ []) xs

turned_kept : (p : Record → Bool) (xs : List Record) → filter p (reverse xs) ≡ reverse (filter p xs)
turned_kept p [] = refl
turned_kept p (x ∷ xs) = ap (filter p) (turned_one x xs) ∙ filter-append p (reverse xs) (x ∷ []) ∙ ap (λ ys. ys ++ filter p (x ∷ [])) (turned_kept p xs) ∙ by (p x) refl
  where
    by : (b : Bool) → p x ≡ b → reverse (filter p xs) ++ filter p (x ∷ []) ≡ reverse (filter p (x ∷ xs))
    by true e = rw e (sym (turned_one x (filter p xs)))
    by false e = rw e (append-nil (reverse (filter p xs)))

kept_moved : (p : Record → Bool) (down : Bool) (xs : List Record) → IsPermutation (filter p (in_order down xs)) (filter p xs)
kept_moved p true xs = subst (λ ys. IsPermutation ys (filter p xs)) (sym (turned_kept p xs)) (IsPermutation-sym _ _ (IsPermutation-reverse (filter p xs)))
kept_moved p false xs = IsPermutation-refl (filter p xs)

module _ (raw_box : RawBox) (down : Bool) where
  tablets_moved : (tablets : List Loaded) → IsPermutation (joined (lefts_of_tablets raw_box down tablets)) (filter (in_box raw_box) (joined (map records_in tablets)))
  tablets_moved [] = IsPermutation-refl []
  tablets_moved (t ∷ tablets) =
      subst (IsPermutation (filter (in_box raw_box) (in_order down (records_in t)) ++ joined (lefts_of_tablets raw_box down tablets))) (sym (filter-append (in_box raw_box) (records_in t) (joined (map records_in tablets))))
      (IsPermutation-append _ _ _ _ (kept_moved (in_box raw_box) down (records_in t)) (tablets_moved tablets))

  lists_same : (mems : List (List Record)) → joined (lefts_of_lists raw_box mems) ≡ filter (in_box raw_box) (joined mems)
  lists_same [] = refl
  lists_same (m ∷ mems) = ap (λ xs. filter (in_box raw_box) m ++ xs) (lists_same mems) ∙ sym (filter-append (in_box raw_box) m (joined mems))

  module _ (tablets : List Loaded) (mems : List (List Record)) where
    pub box_moved : IsPermutation (joined (lefts_of_tablets raw_box down tablets ++ lefts_of_lists raw_box mems)) (filter (in_box raw_box) (gathered true tablets mems))
    box_moved =
        subst (λ xs. IsPermutation xs (filter (in_box raw_box) (joined (map records_in tablets) ++ joined mems))) (sym (joined-append (lefts_of_tablets raw_box down tablets) (lefts_of_lists raw_box mems)))
        (subst (IsPermutation (joined (lefts_of_tablets raw_box down tablets) ++ joined (lefts_of_lists raw_box mems))) (sym (filter-append (in_box raw_box) (joined (map records_in tablets)) (joined mems)))
        (IsPermutation-append _ _ _ _ (tablets_moved tablets) (subst (λ xs. IsPermutation xs (filter (in_box raw_box) (joined mems))) (sym (lists_same mems)) (IsPermutation-refl (filter (in_box raw_box) (joined mems))))))

    all_distinct : HaveDistinctKeys (gathered true tablets mems) → HaveDistinctKeys (joined (lefts_of_tablets raw_box down tablets ++ lefts_of_lists raw_box mems))
    all_distinct h = distinct_moved _ _ (IsPermutation-sym _ _ box_moved) (AllPairs-filter (λ (r s : Record). r.key ≢ s.key) (in_box raw_box) (gathered true tablets mems) h)

    kept_ordered : (recs : List Record) → IsInOrder down recs → IsInOrder down (filter (in_box raw_box) recs)
    kept_ordered recs h = AllPairs-filter (λ (r s : Record). is_before down r.key s.key ≡ true) (in_box raw_box) recs h

    all_ordered : AreInOrder down tablets → All (IsInOrder down) mems → All (IsInOrder down) (lefts_of_tablets raw_box down tablets ++ lefts_of_lists raw_box mems)
    all_ordered rising lists =
        All-append (IsInOrder down) (lefts_of_tablets raw_box down tablets) (lefts_of_lists raw_box mems)
        (All-map (IsInOrder down) (λ t. filter (in_box raw_box) (in_order down (records_in t))) tablets (λ k d w. kept_ordered (in_order down (records_in (get_or tablets k d))) (rising k d w)))
        (All-map (IsInOrder down) (filter (in_box raw_box)) mems (λ k d w. kept_ordered (get_or mems k d) (lists k d w)))

    module _ (sources : List (List Record)) (same : sources ≡ lefts_of_tablets raw_box down tablets ++ lefts_of_lists raw_box mems) where
      pub start_sound : (waiting : List ℕ) → ((at : ℕ) → at < length sources → Contains waiting at) → AreInOrder down tablets → All (IsInOrder down) mems → HaveDistinctKeys (gathered true tablets mems) → IsSound down [] sources waiting
      start_sound waiting all rising lists distinct = record {
        ordered = subst (All (IsInOrder down)) (sym same) (all_ordered rising lists);
        distinct = subst (λ (ls : List (List Record)). HaveDistinctKeys (joined ls)) (sym same) (all_distinct distinct);
        led = λ at w. inl (all at w);
      }

      pub start_sorted : HaveDistinctKeys (gathered true tablets mems) → IsInOrder down (arranged down (all_left [] sources))
      start_sorted distinct = arranged_ordered down (joined sources) (subst (λ (ls : List (List Record)). HaveDistinctKeys (joined ls)) (sym same) (all_distinct distinct))

      pub start_exact : IsPermutation (arranged down (all_left [] sources)) (filter (in_box raw_box) (gathered true tablets mems))
      start_exact = IsPermutation-trans _ _ _ (IsPermutation-sym _ _ (arranged_moves down (joined sources))) (subst (λ (ls : List (List Record)). IsPermutation (joined ls) (filter (in_box raw_box) (gathered true tablets mems))) (sym same) box_moved)
