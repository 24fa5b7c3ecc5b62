-- The latest record of a list, and of one list after another.
use Rattle.std.proofs.Common.{◌≡◌, ◌⊎◌, ℕ, ◌<◌, ◌≤◌, ◌||◌, ◌&&◌, Bool, true, false, leb, List, [], ◌∷◌, ◌++◌, length, nat_eq, get_or, refl, sym, ap, subst, ◌∙◌, arith, inl, inr, Ordering, Equal}
use Rattle.std.specs.Prelude.{Option, Some, None, IfSome, Contains, count_by}
use Rattle.std.specs.List.{All}
use Rattle.std.specs.Ordering.{is_lt, nat_cmp, ordering_then}
use Rattle.std.specs.Cmp.{nat_cmp_is}
use Rattle.std.specs.Cmp.Lexicographic.{slice_cmp}
use Rattle.std.proofs.lemmas.Bool.{cases_lt, and_parts, and_from, leb-true, le-leb, eqb-true}
use Rattle.std.proofs.lemmas.List.{get_or_default}
use Rattle.std.proofs.lemmas.List.Elements.{All-append, Contains-append_left, Contains-append_right}
use Rattle.lt_rec.specs.Bytes.{is_less, begins_with}
use Rattle.lt_rec.specs.Boxes.{is_below}
use Rattle.lt_rec.specs.Record.{Record}
use Rattle.lt_block.specs.Spelling.{IsBlock}
use Rattle.lt_block.specs.Below.{nobody}
use Rattle.lt_probe.specs.Sought.{cut_before}
use Rattle.lt_probe.specs.Asked.{cut_behind}
use Rattle.lt_probe.specs.Latest.{IsCovered, IsLatest, IsUpTo, is_asked}
use Rattle.lt_probe.specs.Picked.{AllEarlier, IsPicked}
use Rattle.lt_probe.proofs.Less.{less_not_back, not_less_itself, not_less_trans}
use Rattle.lt_probe.proofs.Places.{first_below, rest_not_below, before_is, rises_pairs}

pub up_to_itself : (a : Record) → IsUpTo a a
up_to_itself a = inr (refl, not_less_itself a.key)

pub up_to_trans : (a b c : Record) → IsUpTo a b → IsUpTo b c → IsUpTo a c
up_to_trans a b c h k = elim h [
  | inl less ↦ elim k [
    | inl more ↦ inl (omega (arith, less, more))
    | inr same ↦ inl (omega (arith, less, same.0))
  ]
  | inr tie ↦ elim k [
    | inl more ↦ inl (omega (arith, tie.0, more))
    | inr same ↦ inr (tie.0 ∙ same.0, not_less_trans a.key b.key c.key tie.1 same.1)
  ]
]

pub covered_trans : (found : Option Record) (a b : Record) → IsUpTo a b → IsCovered found b → IsCovered found a
covered_trans None a b h k = k
covered_trans (Some f) a b h k = up_to_trans a b f h k

-- what covers one answer covers what that covers
covered_more : (mid found : Option Record) (r : Record) → IfSome mid (IsCovered found) → IsCovered mid r → IsCovered found r
covered_more None found r h k = absurd k
covered_more (Some m) found r h k = covered_trans found r m k h

pub some_covered : (best mid found : Option Record) → IfSome best (IsCovered mid) → IfSome mid (IsCovered found) → IfSome best (IsCovered found)
some_covered None mid found h k = tt
some_covered (Some b) mid found h k = covered_more mid found b k h

pub covers_itself : (best : Option Record) → IfSome best (IsCovered best)
covers_itself None = tt
covers_itself (Some b) = up_to_itself b

-- ---- no record is asked for, or one list comes after another

pub latest_same : (recs : List Record) (prefix : List ℕ) (since : ℕ) (best : Option Record) → All (λ r. is_asked prefix since r ≡ true → IsCovered best r) recs → IsLatest recs prefix since best best
latest_same recs prefix since best over = record {
  one = is_one best;
  over_best = covers_itself best;
  over_all = over;
}
  where
    is_one : (o : Option Record) → IfSome o (λ f. (o ≡ Some f) ⊎ (Contains recs f × (is_asked prefix since f ≡ true)))
    is_one None = tt
    is_one (Some f) = inl refl

pub latest_chain : (xs ys : List Record) (prefix : List ℕ) (since : ℕ) (best mid found : Option Record) → IsLatest xs prefix since best mid → IsLatest ys prefix since mid found → IsLatest (xs ++ ys) prefix since best found
latest_chain xs ys prefix since best mid found h k = record {
  one = is_one found k.one;
  over_best = some_covered best mid found h.over_best k.over_best;
  over_all = All-append (λ r. is_asked prefix since r ≡ true → IsCovered found r) xs ys (λ i d w asked. covered_more mid found (get_or xs i d) k.over_best (h.over_all i d w asked)) k.over_all;
}
  where
    is_one : (o : Option Record) → IfSome o (λ f. (mid ≡ Some f) ⊎ (Contains ys f × (is_asked prefix since f ≡ true))) → IfSome o (λ f. (best ≡ Some f) ⊎ (Contains (xs ++ ys) f × (is_asked prefix since f ≡ true)))
    is_one None one = tt
    is_one (Some f) one = elim one [
      | inl from_mid ↦ elim (subst (λ (x : Option Record). IfSome x (λ g. (best ≡ Some g) ⊎ (Contains xs g × (is_asked prefix since g ≡ true)))) from_mid h.one) [
        | inl first ↦ inl first
        | inr held ↦ inr (Contains-append_left xs ys f held.0, held.1)
      ]
      | inr held ↦ inr (Contains-append_right xs ys f held.0, held.1)
    ]

-- the latest of some records is that of all where none of the others that is asked for is after it
pub latest_around : (front mid end : List Record) (prefix : List ℕ) (since : ℕ) (best found : Option Record) → IsLatest mid prefix since best found → All (λ r. is_asked prefix since r ≡ true → IsCovered found r) front → All (λ r. is_asked prefix since r ≡ true → IsCovered found r) end → IsLatest (front ++ (mid ++ end)) prefix since best found
latest_around front mid end prefix since best found h ahead behind = record {
  one = is_one found h.one;
  over_best = h.over_best;
  over_all = All-append (λ r. is_asked prefix since r ≡ true → IsCovered found r) front (mid ++ end) ahead (All-append (λ r. is_asked prefix since r ≡ true → IsCovered found r) mid end h.over_all behind);
}
  where
    is_one : (o : Option Record) → IfSome o (λ f. (best ≡ Some f) ⊎ (Contains mid f × (is_asked prefix since f ≡ true))) → IfSome o (λ f. (best ≡ Some f) ⊎ (Contains (front ++ (mid ++ end)) f × (is_asked prefix since f ≡ true)))
    is_one None one = tt
    is_one (Some f) one = elim one [
      | inl first ↦ inl first
      | inr held ↦ inr (Contains-append_right front (mid ++ end) f (Contains-append_left mid end f held.0), held.1)
    ]

-- ---- one block

pub or_begins : (less begins : Bool) → less ≡ false → (less || (true && begins)) ≡ true → begins ≡ true
or_begins false begins e h = h
or_begins true begins e h = absurd cc

pub or_true : (less begins : Bool) → begins ≡ true → (less || (true && begins)) ≡ true
or_true false begins e = e
or_true true begins e = refl

pub begins_not_less : (key prefix : List ℕ) → begins_with key prefix ≡ true → is_less key prefix ≡ false
begins_not_less [] [] h = refl
begins_not_less (x ∷ xs) [] h = refl
begins_not_less [] (y ∷ ys) h = absurd cc
begins_not_less (x ∷ xs) (y ∷ ys) h =
    let parts = and_parts (nat_eq y x) (begins_with xs ys) h in
    let same : x ≡ y = sym (eqb-true y x parts.0) in
    ap (λ (o : Ordering). is_lt (ordering_then o (slice_cmp nat_cmp xs ys))) (sym (nat_cmp_is x y Equal same)) ∙ begins_not_less xs ys parts.1

module _ (recs : List Record) (prefix : List ℕ) (since from to : ℕ) (block : IsBlock recs)
    (from_is : from ≡ count_by (λ r. is_below (cut_before prefix) r.key) recs) (to_is : to ≡ count_by (λ r. is_below (cut_behind prefix) r.key) recs) where
  at : ℕ → Record
  at k = get_or recs k nobody

  -- a record that is asked for lies between the cuts
  asked_within : (k : ℕ) (d : Record) → k < length recs → is_asked prefix since (get_or recs k d) ≡ true → (from ≤ k) × (k < to) × (since ≤ (get_or recs k d).ts)
  asked_within k d w asked =
      let parts = and_parts (begins_with (get_or recs k d).key prefix) (leb since (get_or recs k d).ts) asked in
      let same = get_or_default recs k d nobody w in
      let begins = ap (λ (r : Record). begins_with r.key prefix) (sym same) ∙ parts.0 in
      let low : from ≤ k = elim (cases_lt k from) [
        | inl before ↦
            let below = first_below (cut_before prefix) [] recs block.rising k (omega (arith, before, from_is)) in
            let clash : true ≡ false = sym below ∙ before_is prefix (get_or recs k nobody).key ∙ begins_not_less (get_or recs k nobody).key prefix begins in
            absurd cc
        | inr on ↦ on
      ] in
      let high : k < to = elim (cases_lt k to) [
        | inl before ↦ before
        | inr behind ↦
            let over = rest_not_below (cut_behind prefix) [] recs block.rising k (omega (arith, behind, to_is)) w in
            let clash : true ≡ false = sym (or_true (is_less (get_or recs k nobody).key prefix) (begins_with (get_or recs k nobody).key prefix) begins) ∙ over in
            absurd cc
      ] in
      (low, high, leb-true since (get_or recs k d).ts parts.1)

  pub none_later : (best : Option Record) → AllEarlier recs from to since → IsLatest recs prefix since best best
  none_later best early = latest_same recs prefix since best (λ k d w asked.
      let h = asked_within k d w asked in
      absurd (omega (arith, h.2, early k d h.0 h.1)))

  module _ (place : ℕ) (rec : Record) (picked : IsPicked recs from to since place) (within : place < length recs) (here : get_or recs place rec ≡ rec) where
    at_place : (d : Record) → get_or recs place d ≡ rec
    at_place d = get_or_default recs place d rec within ∙ here

    covered_by_it : (k : ℕ) (d : Record) → k < length recs → is_asked prefix since (get_or recs k d) ≡ true → IsUpTo (get_or recs k d) rec
    covered_by_it k d w asked =
        let h = asked_within k d w asked in
        elim (picked.latest k d h.0 h.1) [
          | inl less ↦ inl (omega (arith, less, ap (λ (r : Record). r.ts) (at_place d)))
          | inr tie ↦ inr (
            tie.0 ∙ ap (λ (r : Record). r.ts) (at_place d),
            elim (cases_lt k place) [
              | inl before ↦ less_not_back (get_or recs k d).key rec.key (ap (λ (r : Record). is_less (get_or recs k d).key r.key) (sym (at_place d)) ∙ rises_pairs [] recs block.rising k place d before within)
              | inr same ↦
                  let s : k ≡ place = omega (arith, tie.1) in
                  ap (λ (r : Record). is_less rec.key r.key) (ap (λ j. get_or recs j d) s ∙ at_place d) ∙ not_less_itself rec.key
            ],
          )
        ]

    its_asked : is_asked prefix since rec ≡ true
    its_asked =
        let low = rest_not_below (cut_before prefix) [] recs block.rising place (omega (arith, picked.above, from_is)) within in
        let high = first_below (cut_behind prefix) [] recs block.rising place (omega (arith, picked.below, to_is)) in
        let less : is_less (get_or recs place nobody).key prefix ≡ false = sym (before_is prefix (get_or recs place nobody).key) ∙ low in
        let begins = or_begins (is_less (get_or recs place nobody).key prefix) (begins_with (get_or recs place nobody).key prefix) less high in
        and_from (begins_with rec.key prefix) (leb since rec.ts) (ap (λ (r : Record). begins_with r.key prefix) (sym (at_place nobody)) ∙ begins)
        (le-leb since rec.ts (omega (arith, picked.late nobody, ap (λ (r : Record). r.ts) (at_place nobody))))

    -- it is after the best so far
    pub latest_it : (best : Option Record) → IfSome best (λ b. IsUpTo b rec) → IsLatest recs prefix since best (Some rec)
    latest_it best after = record {
      one = inr ((place, within, here), its_asked);
      over_best = after;
      over_all = covered_by_it;
    }

    -- it isn't
    pub latest_best : (best : Option Record) → IsCovered best rec → IsLatest recs prefix since best best
    latest_best best covered = latest_same recs prefix since best (λ k d w asked. covered_trans best (get_or recs k d) rec (covered_by_it k d w asked) covered)
