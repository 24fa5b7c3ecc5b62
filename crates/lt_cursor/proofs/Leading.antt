-- Sources that are led by their heads, as heads are put and taken.
use Rattle.std.proofs.Common.{◌≡◌, ◌≢◌, ◌⊎◌, ℕ, zero, suc, ◌<◌, Bool, true, List, [], ◌∷◌, ◌++◌, length, map, set, get_or, refl, sym, ap, subst, ◌∙◌, inl, inr, arith}
use Rattle.std.specs.List.{All, Any, Contains}
use Rattle.std.specs.List.Sorted.{IsPermutation}
use Rattle.std.proofs.lemmas.Bool.{cases_lt}
use Rattle.std.proofs.lemmas.List.{get_or-set_same, get_or-set_other, length-set, length-map, get_or-map}
use Rattle.std.proofs.lemmas.List.Elements.{All-nil, All-append, All-set, All-map, All-get_or, All-contains, Contains-append_left, Contains-push_cases}
use Rattle.std.proofs.lemmas.List.Sorted.{IsPermutation-refl, IsPermutation-sym, IsPermutation-trans, IsPermutation-middle, IsPermutation-map, IsPermutation-append_left, IsPermutation-append_right, Contains-permutation}
use Rattle.lt_rec.specs.Record.{Record}
use Rattle.lt_rec.specs.Records.{joined}
use Rattle.lt_kway.specs.Heads.{is_before}
use Rattle.lt_kway.specs.declared.head.Head.{Head}
use Rattle.lt_cursor.specs.Order.{IsInOrder, arranged}
use Rattle.lt_cursor.specs.Merging.{all_left, IsLed, IsSound}
use Rattle.lt_cursor.proofs.Keys.{before_trans}
use Rattle.lt_cursor.proofs.Sorting.{pairs_head, pairs_tail, distinct_moved, arranged_first, arranged_same, arranged_none}

same_place : (i j : ℕ) → (i ≡ j) ⊎ (i ≢ j)
same_place i j = elim (cases_lt i j) [
  | inl low ↦ inr (λ e. absurd (omega (arith, low, e)))
  | inr up ↦ elim (cases_lt j i) [
    | inl high ↦ inr (λ e. absurd (omega (arith, high, e)))
    | inr same ↦ inl (omega arith)
  ]
]

-- some element that is in the list, and in the list in another order
any_of : {X : Type 0} (P : X → Type 0) (xs : List X) (x : X) → Contains xs x → P x → Any P xs
any_of P xs x c p = (c.0, x, c.1, c.2, p)

any_moved : {X : Type 0} (P : X → Type 0) (xs ys : List X) → IsPermutation xs ys → Any P xs → Any P ys
any_moved P xs ys p a = any_of P ys a.1 (Contains-permutation xs ys a.1 p (a.0, a.2, a.3)) a.4

-- what is left of a source gives its first record
joined_given : (sources : List (List Record)) (at : ℕ) (r : Record) (left : List Record) → at < length sources → get_or sources at [] ≡ r ∷ left → IsPermutation (joined sources) (r ∷ joined (set sources at left))
joined_given [] at r left w e = absurd (omega (arith, w))
joined_given (s ∷ sources) zero r left w e = subst (λ (xs : List Record). IsPermutation (xs ++ joined sources) (r ∷ (left ++ joined sources))) (sym e) (IsPermutation-refl (r ∷ (left ++ joined sources)))
joined_given (s ∷ sources) (suc at) r left w e =
    IsPermutation-trans _ _ _ (IsPermutation-append_right s _ _ (joined_given sources at r left (omega (arith, w)) e)) (IsPermutation-middle s r (joined (set sources at left)))

abbrev recs_of : List Head → List Record
recs_of heads = map (λ head. head.rec) heads

-- ---- a source without records needs no head

pub led_by_none : (down : Bool) (heads : List Head) (sources : List (List Record)) (waiting : List ℕ) (at : ℕ) → at < length sources → IsSound down heads sources (waiting ++ at ∷ []) → get_or sources at [] ≡ [] → IsSound down heads sources waiting
led_by_none down heads sources waiting at w sound none = record {
  ordered = sound.ordered;
  distinct = sound.distinct;
  led = λ j v. elim (sound.led j v) [
    | inl waits ↦ elim (Contains-push_cases waiting at j waits) [
      | inl still ↦ inl still
      | inr same ↦ inr (inl (ap (λ i. get_or sources i []) (sym same) ∙ none))
    ]
    | inr led ↦ inr led
  ];
}

-- ---- a source whose next record becomes a head

module _ (down : Bool) (heads now : List Head) (sources : List (List Record)) (waiting : List ℕ) (at : ℕ) (head : Head) (left : List Record)
    (w : at < length sources) (is : head.source ≡ at) (sound : IsSound down heads sources (waiting ++ at ∷ [])) (gives : get_or sources at [] ≡ head.rec ∷ left) (put : IsPermutation (head ∷ heads) now) where
  rest : List (List Record)
  rest = set sources at left

  all_moved : IsPermutation (all_left heads sources) (all_left now (set sources at left))
  all_moved =
      IsPermutation-trans _ _ _ (IsPermutation-append_right (recs_of heads) _ _ (joined_given sources at head.rec left w gives))
      (IsPermutation-trans _ _ _ (IsPermutation-middle (recs_of heads) head.rec (joined (set sources at left)))
      (IsPermutation-append_left (joined (set sources at left)) _ _ (IsPermutation-map (λ (h : Head). h.rec) (head ∷ heads) now put)))

  pub put_coming : arranged down (all_left now (set sources at left)) ≡ arranged down (all_left heads sources)
  put_coming = sym (arranged_same down (all_left heads sources) (all_left now (set sources at left)) sound.distinct all_moved)

  in_order : IsInOrder down (head.rec ∷ left)
  in_order = subst (IsInOrder down) gives (All-get_or (IsInOrder down) sources at [] w sound.ordered)

  leads : IsLed down now at left
  leads = inr (any_of (λ (h : Head). (h.source ≡ at) × All (λ r. is_before down h.rec.key r.key ≡ true) left) now head (Contains-permutation (head ∷ heads) now head put (0, omega arith, refl))
      (is, pairs_head (λ r s. is_before down r.key s.key ≡ true) head.rec left in_order))

  still_led : (j : ℕ) (recs : List Record) → IsLed down heads j recs → IsLed down now j recs
  still_led j recs (inl e) = inl e
  still_led j recs (inr a) = inr (any_moved (λ (h : Head). (h.source ≡ j) × All (λ r. is_before down h.rec.key r.key ≡ true) recs) (head ∷ heads) now put (suc a.0, a.1, omega (arith, a.2), a.3, a.4))

  pub put_sound : IsSound down now (set sources at left) waiting
  put_sound = record {
    ordered = All-set (IsInOrder down) sources at left (pairs_tail (λ r s. is_before down r.key s.key ≡ true) head.rec left in_order) sound.ordered;
    distinct = distinct_moved (all_left heads sources) (all_left now (set sources at left)) all_moved sound.distinct;
    led = λ j v.
        let size = length-set sources at left in
        elim (same_place j at) [
          | inl same ↦ inr (subst (λ i. IsLed down now i (get_or (set sources at left) i [])) (sym same) (subst (IsLed down now at) (sym (get_or-set_same sources at left [] w)) leads))
          | inr other ↦ elim (sound.led j (omega (arith, v, size))) [
            | inl waits ↦ elim (Contains-push_cases waiting at j waits) [
              | inl still ↦ inl still
              | inr same ↦ absurd (other (sym same))
            ]
            | inr led ↦ inr (subst (IsLed down now j) (sym (get_or-set_other sources at j left [] other)) (still_led j (get_or sources j []) led))
          ]
        ];
  }

-- ---- the head that is taken

all_joined : (P : Record → Type 0) (sources : List (List Record)) → ((j : ℕ) → j < length sources → All P (get_or sources j [])) → All P (joined sources)
all_joined P [] h = All-nil P
all_joined P (s ∷ sources) h = All-append P s (joined sources) (h 0 (omega arith)) (all_joined P sources (λ j v. h (suc j) (omega (arith, v))))

module _ (down : Bool) (heads now : List Head) (sources : List (List Record)) (head : Head) (sound : IsSound down heads sources []) (taken : IsPermutation (head ∷ now) heads) (least : All (λ (h : Head). is_before down head.rec.key h.rec.key ≡ true) now) where
  left_moved : IsPermutation (all_left heads sources) (head.rec ∷ all_left now sources)
  left_moved = IsPermutation-append_left (joined sources) _ _ (IsPermutation-sym _ _ (IsPermutation-map (λ (h : Head). h.rec) (head ∷ now) heads taken))

  nobody_waits : (j : ℕ) → Contains [] j → ⊥
  nobody_waits j c = absurd (omega (arith, c.1))

  -- a head that is held is the one that is taken, or one of the others
  one_of : (h : Head) → Contains heads h → (head ≡ h) ⊎ Contains now h
  one_of h c = let d = Contains-permutation heads (head ∷ now) h (IsPermutation-sym _ _ taken) c in by d.0 d.1 d.2
    where
      by : (k : ℕ) → k < length (head ∷ now) → get_or (head ∷ now) k h ≡ h → (head ≡ h) ⊎ Contains now h
      by zero v e = inl e
      by (suc k) v e = inr (k, omega (arith, v), e)

  before_each : (j : ℕ) (recs : List Record) → IsLed down heads j recs → All (λ r. is_before down head.rec.key r.key ≡ true) recs
  before_each j recs (inl e) = subst (All (λ r. is_before down head.rec.key r.key ≡ true)) (sym e) (All-nil (λ r. is_before down head.rec.key r.key ≡ true))
  before_each j recs (inr a) = elim (one_of a.1 (a.0, a.2, a.3)) [
    | inl same ↦ subst (λ (h : Head). All (λ r. is_before down h.rec.key r.key ≡ true) recs) (sym same) a.4.1
    | inr other ↦ λ k d v. before_trans down head.rec.key a.1.rec.key (get_or recs k d).key (All-contains (λ (h : Head). is_before down head.rec.key h.rec.key ≡ true) now a.1 least other) (a.4.1 k d v)
  ]

  before_all : All (λ r. is_before down head.rec.key r.key ≡ true) (all_left now sources)
  before_all = All-append (λ r. is_before down head.rec.key r.key ≡ true) (recs_of now) (joined sources)
      (All-map (λ r. is_before down head.rec.key r.key ≡ true) (λ (h : Head). h.rec) now least)
      (all_joined (λ r. is_before down head.rec.key r.key ≡ true) sources (λ j v. elim (sound.led j v) [
        | inl waits ↦ absurd (nobody_waits j waits)
        | inr led ↦ before_each j (get_or sources j []) led
      ]))

  pub taken_coming : arranged down (all_left heads sources) ≡ head.rec ∷ arranged down (all_left now sources)
  taken_coming = arranged_same down (all_left heads sources) (head.rec ∷ all_left now sources) sound.distinct left_moved ∙ arranged_first down head.rec (all_left now sources) before_all

  others_led : (j : ℕ) (recs : List Record) → head.source ≢ j → IsLed down heads j recs → IsLed down now j recs
  others_led j recs n (inl e) = inl e
  others_led j recs n (inr a) = elim (one_of a.1 (a.0, a.2, a.3)) [
    | inl same ↦ absurd (n (ap (λ (h : Head). h.source) same ∙ a.4.0))
    | inr other ↦ inr (any_of (λ (h : Head). (h.source ≡ j) × All (λ r. is_before down h.rec.key r.key ≡ true) recs) now a.1 other a.4)
  ]

  pub taken_sound : IsSound down now sources (head.source ∷ [])
  taken_sound = record {
    ordered = sound.ordered;
    distinct = pairs_tail (λ r s. r.key ≢ s.key) head.rec (all_left now sources) (distinct_moved (all_left heads sources) (head.rec ∷ all_left now sources) left_moved sound.distinct);
    led = λ j v. elim (same_place head.source j) [
      | inl same ↦ inl (0, omega arith, same)
      | inr other ↦ elim (sound.led j v) [
        | inl waits ↦ absurd (nobody_waits j waits)
        | inr led ↦ inr (others_led j (get_or sources j []) other led)
      ]
    ];
  }

-- ---- where no head is held

none_joined : (sources : List (List Record)) → ((j : ℕ) → j < length sources → get_or sources j [] ≡ []) → joined sources ≡ []
none_joined [] h = refl
none_joined (s ∷ sources) h = (λ i. h 0 (omega arith) i ++ none_joined sources (λ j v. h (suc j) (omega (arith, v))) i)

pub end_coming : (down : Bool) (heads : List Head) (sources : List (List Record)) → IsSound down heads sources [] → heads ≡ [] → arranged down (all_left heads sources) ≡ []
end_coming down heads sources sound none =
    ap (λ (hs : List Head). arranged down (all_left hs sources)) none
    ∙ ap (arranged down) (none_joined sources (λ j v. elim (sound.led j v) [
      | inl waits ↦ absurd (omega (arith, waits.1))
      | inr led ↦ ended j (get_or sources j []) (subst (λ (hs : List Head). IsLed down hs j (get_or sources j [])) none led)
    ])) ∙ arranged_none down
  where
    ended : (j : ℕ) (recs : List Record) → IsLed down [] j recs → recs ≡ []
    ended j recs (inl e) = e
    ended j recs (inr a) = absurd (omega (arith, a.2))

-- ---- no two sources have a key in common

pub never_clash : (down : Bool) (heads : List Head) (sources : List (List Record)) (waiting : List ℕ) (at source : ℕ) (r : Record) (left : List Record) → at < length sources → IsSound down heads sources waiting → get_or sources at [] ≡ r ∷ left → Any (λ (h : Head). (h.source ≡ source) × (h.rec.key ≡ r.key)) heads → ⊥
never_clash down heads sources waiting at source r left w sound gives a =
    let moved = IsPermutation-trans _ _ _ (IsPermutation-append_right (recs_of heads) _ _ (joined_given sources at r left w gives)) (IsPermutation-middle (recs_of heads) r (joined (set sources at left))) in
    let differs = pairs_head (λ r s. r.key ≢ s.key) r (recs_of heads ++ joined (set sources at left)) (distinct_moved _ _ moved sound.distinct) in
    let there : Contains (recs_of heads) a.1.rec = (a.0, omega (arith, a.2, length-map heads (λ (h : Head). h.rec)), get_or-map (λ (h : Head). h.rec) heads a.0 a.1 a.1.rec a.2 ∙ ap (λ (h : Head). h.rec) a.3) in
    All-contains (λ s. r.key ≢ s.key) (recs_of heads ++ joined (set sources at left)) a.1.rec differs (Contains-append_left (recs_of heads) (joined (set sources at left)) a.1.rec there) (sym a.4.1)
