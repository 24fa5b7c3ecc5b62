-- Keys below a cut are a front of rising keys.
use Rattle.std.proofs.Common.{◌≡◌, ℕ, ◌+◌, ◌<◌, ◌≤◌, ◌||◌, ◌&&◌, Bool, true, false, List, [], ◌∷◌, length, get_or, nat_eq, refl, sym, ap, ◌∙◌, inl, inr, arith, true≢false, Ordering, Less, Equal, Greater}
use Rattle.std.specs.Ordering.{is_lt, nat_cmp, ordering_then, MatchOrdering}
use Rattle.std.specs.Cmp.{ranks}
use Rattle.std.specs.Cmp.Lexicographic.{slice_cmp}
use Rattle.std.proofs.lemmas.Bool.{eq-eqb, eqb-true, or_cases, and_parts, cases_lt, cases_Bool}
use Rattle.std.proofs.lemmas.List.{get_or_default}
use Rattle.lt_rec.specs.Bytes.{is_less, begins_with}
use Rattle.lt_rec.specs.Boxes.{is_below}
use Rattle.lt_rec.specs.Record.{Record}
use Rattle.lt_rec.specs.declared.cut.Cut.{Cut}
use Rattle.lt_mem.specs.Rising.{IsRising}
use Rattle.lt_mem.specs.Pieces.{first_key, piece_at, AreLined, AllBelow, NoneBelow, IsUpTo}
use Rattle.lt_mem.proofs.Order.{less_trans}
use Rattle.lt_mem.proofs.Joined.{first_at}
use Rattle.lt_mem.proofs.Gap.{key_before, key_within}

-- one more byte in front, the same in the greater key and in the front
byte_more : (x y : ℕ) (o rest tail : Ordering) (begun : Bool) → MatchOrdering o (x < y) (x ≡ y) (y < x) → is_lt (ordering_then o rest) ≡ true → (is_lt rest ≡ true → (is_lt tail || begun) ≡ true)
    → (is_lt (ordering_then o tail) || (nat_eq y x && begun)) ≡ true
byte_more x y Less rest tail begun m h more = refl
byte_more x y Equal rest tail begun m h more = rw (eq-eqb y x (sym m)) (more h)
byte_more x y Greater rest tail begun m h more = absurd (true≢false (sym h))

-- a key below one that begins with these bytes lies below them or begins with them
less_or_begins : (a b p : List ℕ) → is_less a b ≡ true → begins_with b p ≡ true → (is_less a p || begins_with a p) ≡ true
less_or_begins [] b [] h e = refl
less_or_begins (x ∷ xs) b [] h e = refl
less_or_begins [] b (y ∷ ys) h e = refl
less_or_begins (x ∷ xs) [] (y ∷ ys) h e = absurd (true≢false (sym e))
less_or_begins (x ∷ xs) (z ∷ zs) (y ∷ ys) h e =
    let parts = and_parts (nat_eq y z) (begins_with zs ys) e in
    let same : y ≡ z = eqb-true y z parts.0 in
    byte_more x y (nat_cmp x y) (slice_cmp nat_cmp xs zs) (slice_cmp nat_cmp xs ys) (begins_with xs ys) (ranks x y)
    (ap (λ w. is_lt (ordering_then (nat_cmp x w) (slice_cmp nat_cmp xs zs))) same ∙ h)
    (λ r. less_or_begins xs zs ys r parts.1)

pub below_before : (cut : Cut) (a b : List ℕ) → is_less a b ≡ true → is_below cut b ≡ true → is_below cut a ≡ true
below_before cut a b h e = elim (or_cases (is_less b cut.bytes) (cut.after && begins_with b cut.bytes) e) [
  | inl low ↦ rw (less_trans a b cut.bytes h low) refl
  | inr front ↦
      let parts = and_parts cut.after (begins_with b cut.bytes) front in
      rw parts.0 (less_or_begins a b cut.bytes h parts.1)
]

pub not_below_after : (cut : Cut) (a b : List ℕ) → is_less a b ≡ true → is_below cut a ≡ false → is_below cut b ≡ false
not_below_after cut a b h e = elim (cases_Bool (is_below cut b)) [
  | inl low ↦ absurd (true≢false (sym (below_before cut a b h low) ∙ e))
  | inr up ↦ up
]

-- records before and from a place on, as seen from the record in the middle
module _ (cut : Cut) (xs : List Record) (rising : IsRising xs) (mid : ℕ) (x : Record) (held : mid < length xs) (here : x ≡ get_or xs mid x) where
  at_mid : (d : Record) → get_or xs mid d ≡ x
  at_mid d = get_or_default xs mid d x held ∙ sym here

  pub front_below : is_below cut x.key ≡ true → (k : ℕ) (d : Record) → k < mid + 1 → is_below cut (get_or xs k d).key ≡ true
  front_below b k d h = elim (cases_lt k mid) [
    | inl low ↦ below_before cut (get_or xs k d).key (get_or xs mid d).key (rising k mid d low held) (ap (λ (y : Record). is_below cut y.key) (at_mid d) ∙ b)
    | inr up ↦
        let same : k ≡ mid = omega arith in
        ap (λ j. is_below cut (get_or xs j d).key) same ∙ ap (λ (y : Record). is_below cut y.key) (at_mid d) ∙ b
  ]

  pub rest_not_below : is_below cut x.key ≡ false → (k : ℕ) (d : Record) → mid ≤ k → k < length xs → is_below cut (get_or xs k d).key ≡ false
  rest_not_below b k d h w = elim (cases_lt mid k) [
    | inl up ↦ not_below_after cut (get_or xs mid d).key (get_or xs k d).key (rising mid k d up w) (ap (λ (y : Record). is_below cut y.key) (at_mid d) ∙ b)
    | inr low ↦
        let same : k ≡ mid = omega arith in
        ap (λ j. is_below cut (get_or xs j d).key) same ∙ ap (λ (y : Record). is_below cut y.key) (at_mid d) ∙ b
  ]

not_below_from : (cut : Cut) (a b : List ℕ) → IsUpTo a b → is_below cut a ≡ false → is_below cut b ≡ false
not_below_from cut a b u e = elim u [
  | inl l ↦ not_below_after cut a b l e
  | inr s ↦ ap (is_below cut) (sym s) ∙ e
]

-- whole pieces before and behind one that begins below the cut, or does not
module _ (cut : Cut) (ps : List (List Record)) (lined : AreLined ps) (at : ℕ) (held : at < length ps) where
  pub pieces_below : is_below cut (first_key (piece_at ps at)) ≡ true → (k : ℕ) → k < at → AllBelow cut (piece_at ps k)
  pieces_below b k low i d w = below_before cut (get_or (piece_at ps k) i d).key (first_key (piece_at ps at)) (key_before ps k at lined low held i d w) b

  first_not_below : is_below cut (first_key (piece_at ps at)) ≡ false → (k : ℕ) → at ≤ k → k < length ps → is_below cut (first_key (piece_at ps k)) ≡ false
  first_not_below b k up w = elim (cases_lt at k) [
    | inl far ↦
        let d : Record = record { key = []; ts = 0; seq = 0; ver = 0; body = [] } in
        let some : 0 < length (piece_at ps at) = lined.some at [] held in
        not_below_after cut (first_key (piece_at ps at)) (first_key (piece_at ps k))
        (ap (λ x. is_less x (first_key (piece_at ps k))) (sym (first_at (piece_at ps at) d some)) ∙ key_before ps at k lined far w 0 d some) b
    | inr near ↦ let s : k ≡ at = omega arith in ap (λ j. is_below cut (first_key (piece_at ps j))) s ∙ b
  ]

  pub pieces_not_below : is_below cut (first_key (piece_at ps at)) ≡ false → (k : ℕ) → at ≤ k → k < length ps → NoneBelow cut (piece_at ps k)
  pieces_not_below b k up w i d v = not_below_from cut (first_key (piece_at ps k)) (get_or (piece_at ps k) i d).key (key_within ps k lined w i d v) (first_not_below b k up w)
