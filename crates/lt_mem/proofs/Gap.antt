-- Where a key belongs among pieces of rising records.
use Rattle.std.proofs.Common.{◌≡◌, ℕ, ◌+◌, ◌-◌, ◌<◌, ◌≤◌, true, List, [], ◌++◌, length, take, drop, insert, get_or, sym, ap, subst, ◌∙◌, inl, inr, arith, length-append, length-drop}
use Rattle.std.proofs.lemmas.List.{drop_more, drop_all, get_or-append-add, get_or-take, get_or-drop, take-take, length-take-le}
use Rattle.std.proofs.lemmas.List.Edits.{get_or-insert_at, get_or-insert_below, get_or-insert_above, length-insert}
use Rattle.std.proofs.lemmas.Bool.{cases_lt}
use Rattle.std.proofs.Math.ListN.{get_or-append}
use Rattle.lt_rec.specs.Bytes.{is_less}
use Rattle.lt_rec.specs.Record.{Record}
use Rattle.lt_rec.specs.Records.{joined}
use Rattle.lt_mem.specs.Rising.{IsRising, NoneHas}
use Rattle.lt_mem.specs.Pieces.{first_key, piece_at, place_of, IsUpTo, AreLined, EachRises, IsGap}
use Rattle.lt_mem.proofs.Order.{less_trans, less_differs}
use Rattle.lt_mem.proofs.Joined.{in_three, first_at}

up_to : (a b c : List ℕ) → is_less a b ≡ true → IsUpTo b c → is_less a c ≡ true
up_to a b c h u = elim u [
  | inl l ↦ less_trans a b c h l
  | inr e ↦ ap (λ x. is_less a x) (sym e) ∙ h
]

module _ (ps : List (List Record)) (at : ℕ) (lined : AreLined ps) (held : at < length ps) where
  abbrev pub a : List Record
  a = joined (take at ps)

  abbrev pub p : List Record
  p = piece_at ps at

  abbrev pub c : List Record
  c = joined (drop (at + 1) ps)

  all : joined ps ≡ a ++ (p ++ c)
  all = in_three ps at held

  long : length (joined ps) ≡ length a + (length p + length c)
  long = ap length all ∙ length-append a (p ++ c) ∙ ap (λ n. length a + n) (length-append p c)

  pub in_piece : (k : ℕ) (d : Record) → k < length p → get_or (joined ps) (length a + k) d ≡ get_or p k d
  in_piece k d h = ap (λ xs. get_or xs (length a + k) d) all ∙ get_or-append-add a (p ++ c) k d ∙ get_or-append p c d k h

  in_rest : (k : ℕ) (d : Record) → get_or (joined ps) (length a + (length p + k)) d ≡ get_or c k d
  in_rest k d = ap (λ xs. get_or xs (length a + (length p + k)) d) all ∙ get_or-append-add a (p ++ c) (length p + k) d ∙ get_or-append-add p c k d

  pub piece_rises : IsRising (piece_at ps at)
  piece_rises i j d lt w =
      let r = lined.rising (length a + i) (length a + j) d (omega arith) (omega (arith, long)) in
      ap (λ (x : Record). is_less x.key (get_or p j d).key) (sym (in_piece i d (omega arith)))
      ∙ ap (λ (x : Record). is_less (get_or (joined ps) (length a + i) d).key x.key) (sym (in_piece j d w)) ∙ r

  some : 0 < length p
  some = lined.some at [] held

  first_is : (d : Record) → (get_or (joined ps) (length a) d).key ≡ first_key p
  first_is d =
      let z : length a ≡ length a + 0 = omega arith in
      ap (λ k. (get_or (joined ps) k d).key) z ∙ ap (λ (x : Record). x.key) (in_piece 0 d some) ∙ first_at p d some

  none_before : at ≡ 0 → length a ≡ 0
  none_before e = ap (λ k. length (joined (take k ps))) e

  none_after : length ps ≤ at + 1 → length c ≡ 0
  none_after h = ap (λ qs. length (joined qs)) (drop_all (at + 1) ps h)

  next_is : (d : Record) → at + 1 < length ps → (get_or (joined ps) (length a + length p) d).key ≡ first_key (piece_at ps (at + 1))
  next_is d h =
      let q = piece_at ps (at + 1) in
      let more : c ≡ q ++ joined (drop (at + 1 + 1) ps) = ap joined (drop_more ps (at + 1) [] h) in
      let full : 0 < length q = lined.some (at + 1) [] h in
      let z : length a + length p ≡ length a + (length p + 0) = omega arith in
      ap (λ k. (get_or (joined ps) k d).key) z ∙ ap (λ (x : Record). x.key) (in_rest 0 d ∙ ap (λ xs. get_or xs 0 d) more ∙ get_or-append q (joined (drop (at + 1 + 1) ps)) d 0 full) ∙ first_at q d full

  pub fits : (place : ℕ) → place ≤ length (piece_at ps at) → place_of ps at place ≤ length (joined ps)
  fits place w = omega (arith, long)

  pub found_in : (place : ℕ) (x : Record) → place < length (piece_at ps at) → x ≡ get_or (piece_at ps at) place x → (k : ℕ) × (k < length (joined ps)) × (get_or (joined ps) k x ≡ x)
  found_in place x w e = (length a + place, omega (arith, long), in_piece place x w ∙ sym e)

  module _ (key : List ℕ) (place : ℕ) (begun : 0 < at → IsUpTo (first_key (piece_at ps at)) key) (next : at + 1 < length ps → is_less key (first_key (piece_at ps (at + 1))) ≡ true)
      (within : place ≤ length (piece_at ps at)) (before : (k : ℕ) (d : Record) → k < place → is_less (get_or (piece_at ps at) k d).key key ≡ true)
      (after : (k : ℕ) (d : Record) → place ≤ k → k < length (piece_at ps at) → is_less key (get_or (piece_at ps at) k d).key ≡ true) where
    below : (k : ℕ) (d : Record) → k < length a + place → is_less (get_or (joined ps) k d).key key ≡ true
    below k d h = elim (cases_lt k (length a)) [
      | inl low ↦ elim (cases_lt 0 at) [
        | inl later ↦ up_to (get_or (joined ps) k d).key (first_key p) key
            (ap (λ x. is_less (get_or (joined ps) k d).key x) (sym (first_is d)) ∙ lined.rising k (length a) d low (omega (arith, long, some))) (begun later)
        | inr front ↦ let z = none_before (omega arith) in absurd (omega arith)
      ]
      | inr up ↦
          let s : k ≡ length a + (k - length a) = omega arith in
          ap (λ j. is_less (get_or (joined ps) j d).key key) s ∙ ap (λ (x : Record). is_less x.key key) (in_piece (k - length a) d (omega arith)) ∙ before (k - length a) d (omega arith)
    ]

    above : (k : ℕ) (d : Record) → length a + place ≤ k → k < length (joined ps) → is_less key (get_or (joined ps) k d).key ≡ true
    above k d h w = elim (cases_lt k (length a + length p)) [
      | inl in_it ↦
          let s : k ≡ length a + (k - length a) = omega arith in
          ap (λ j. is_less key (get_or (joined ps) j d).key) s ∙ ap (λ (x : Record). is_less key x.key) (in_piece (k - length a) d (omega arith)) ∙ after (k - length a) d (omega arith) (omega arith)
      | inr past ↦ elim (cases_lt (at + 1) (length ps)) [
        | inl more ↦
            let first : is_less key (get_or (joined ps) (length a + length p) d).key ≡ true = ap (λ x. is_less key x) (next_is d more) ∙ next more in
            elim (cases_lt (length a + length p) k) [
              | inl far ↦ less_trans key (get_or (joined ps) (length a + length p) d).key (get_or (joined ps) k d).key first (lined.rising (length a + length p) k d far w)
              | inr same ↦ let s : k ≡ length a + length p = omega arith in ap (λ j. is_less key (get_or (joined ps) j d).key) s ∙ first
            ]
        | inr last ↦ let z = none_after last in absurd (omega (arith, long))
      ]
    ]

    pub gap : IsGap ps key at place
    gap = record { held = held; within = within; before = below; after = above }

-- a piece's records stand before those of later pieces
start_more : (ps : List (List Record)) (i j : ℕ) → i < j → j ≤ length ps → length (joined (take i ps)) + length (piece_at ps i) ≤ length (joined (take j ps))
start_more ps i j h w =
    let n = length-take-le j ps w in
    let three = ap length (in_three (take j ps) i (omega arith)) in
    let front = ap (λ qs. length (joined qs)) (take-take i j ps (omega arith)) in
    let same = ap length (get_or-take j ps i [] h) in
    omega (arith, length-append (joined (take i (take j ps))) (piece_at (take j ps) i ++ joined (drop (i + 1) (take j ps))), length-append (piece_at (take j ps) i) (joined (drop (i + 1) (take j ps))))

pub key_before : (ps : List (List Record)) (i j : ℕ) → AreLined ps → i < j → j < length ps → (k : ℕ) (d : Record) → k < length (piece_at ps i) → is_less (get_or (piece_at ps i) k d).key (first_key (piece_at ps j)) ≡ true
key_before ps i j lined h w k d v =
    let held : i < length ps = omega arith in
    let more = start_more ps i j h (omega arith) in
    let full = some ps j lined w in
    let size = long ps j lined w in
    ap (λ x. is_less (get_or (piece_at ps i) k d).key x) (sym (first_is ps j lined w d))
    ∙ ap (λ (x : Record). is_less x.key (get_or (joined ps) (length (joined (take j ps))) d).key) (sym (in_piece ps i lined held k d v))
    ∙ lined.rising (length (joined (take i ps)) + k) (length (joined (take j ps))) d (omega arith) (omega arith)

pub key_within : (ps : List (List Record)) (at : ℕ) → AreLined ps → at < length ps → (k : ℕ) (d : Record) → k < length (piece_at ps at) → IsUpTo (first_key (piece_at ps at)) (get_or (piece_at ps at) k d).key
key_within ps at lined held k d v =
    let first = first_at (piece_at ps at) d (some ps at lined held) in
    elim (cases_lt 0 k) [
      | inl later ↦ inl (ap (λ x. is_less x (get_or (piece_at ps at) k d).key) (sym first) ∙ piece_rises ps at lined held 0 k d later v)
      | inr front ↦ let s : 0 ≡ k = omega arith in inr (sym first ∙ ap (λ j. (get_or (piece_at ps at) j d).key) s)
    ]

-- pieces between two places
pub between_rises : (ps : List (List Record)) (from to : ℕ) → AreLined ps → to ≤ length ps → EachRises (drop from (take to ps))
between_rises ps from to lined h k w =
    let n = length-drop from (take to ps) in
    let m = length-take-le to ps h in
    let v : from + k < to = omega arith in
    let same : piece_at (drop from (take to ps)) k ≡ piece_at ps (from + k) = get_or-drop from (take to ps) k [] ∙ get_or-take to ps (from + k) [] v in
    subst IsRising (sym same) (piece_rises ps (from + k) lined (omega arith))

-- what a gap says of the records
module _ (xs : List Record) (key : List ℕ) (n : ℕ) (within : n ≤ length xs) (before : (k : ℕ) (d : Record) → k < n → is_less (get_or xs k d).key key ≡ true)
    (after : (k : ℕ) (d : Record) → n ≤ k → k < length xs → is_less key (get_or xs k d).key ≡ true) where
  pub none_has : NoneHas xs key
  none_has k d w = elim (cases_lt k n) [
    | inl low ↦ less_differs (get_or xs k d).key key (before k d low)
    | inr up ↦ λ s. less_differs key (get_or xs k d).key (after k d up w) (sym s)
  ]

  module _ (h : Record) (f : h.key ≡ key) where
    both : (i j : ℕ) (d x y : Record) → get_or (insert xs n h) i d ≡ x → get_or (insert xs n h) j d ≡ y → is_less x.key y.key ≡ true → is_less (get_or (insert xs n h) i d).key (get_or (insert xs n h) j d).key ≡ true
    both i j d x y p q r = ap (λ (z : Record). is_less z.key (get_or (insert xs n h) j d).key) p ∙ ap (λ (z : Record). is_less x.key z.key) q ∙ r

    under : (k : ℕ) (d : Record) → k < n → get_or (insert xs n h) k d ≡ get_or xs k d
    under k d w = get_or-insert_below xs n h d k w within

    over : (k : ℕ) (d : Record) → n < k → get_or (insert xs n h) k d ≡ get_or xs (k - 1) d
    over k d w =
        let s : k ≡ (k - 1) + 1 = omega arith in
        ap (λ j. get_or (insert xs n h) j d) s ∙ get_or-insert_above xs n h d (k - 1) (omega arith) within

    on_it : (k : ℕ) (d : Record) → k ≡ n → get_or (insert xs n h) k d ≡ h
    on_it k d s = ap (λ j. get_or (insert xs n h) j d) s ∙ get_or-insert_at xs n h d within

    less_here : (k : ℕ) (d : Record) → k < n → is_less (get_or xs k d).key h.key ≡ true
    less_here k d w = ap (λ x. is_less (get_or xs k d).key x) f ∙ before k d w

    here_less : (k : ℕ) (d : Record) → n ≤ k → k < length xs → is_less h.key (get_or xs k d).key ≡ true
    here_less k d w v = ap (λ x. is_less x (get_or xs k d).key) f ∙ after k d w v

    pub rising_insert : IsRising xs → IsRising (insert xs n h)
    rising_insert rising i j d lt w =
        let size = length-insert xs n h within in
        elim (cases_lt j n) [
          | inl low ↦ both i j d _ _ (under i d (omega arith)) (under j d low) (rising i j d lt (omega (arith, within)))
          | inr up ↦ elim (cases_lt n j) [
            | inl past ↦ elim (cases_lt i n) [
              | inl front ↦ both i j d _ _ (under i d front) (over j d past) (rising i (j - 1) d (omega arith) (omega arith))
              | inr back ↦ elim (cases_lt n i) [
                | inl far ↦ both i j d _ _ (over i d far) (over j d past) (rising (i - 1) (j - 1) d (omega arith) (omega arith))
                | inr same ↦ both i j d _ _ (on_it i d (omega arith)) (over j d past) (here_less (j - 1) d (omega arith) (omega arith))
              ]
            ]
            | inr same ↦ both i j d _ _ (under i d (omega arith)) (on_it j d (omega arith)) (less_here i d (omega arith))
          ]
        ]

pub gap_none : (ps : List (List Record)) (key : List ℕ) (at place : ℕ) → AreLined ps → IsGap ps key at place → NoneHas (joined ps) key
gap_none ps key at place lined g = none_has (joined ps) key (place_of ps at place) (fits ps at lined g.held place g.within) g.before g.after

pub gap_rises : (ps : List (List Record)) (key : List ℕ) (at place : ℕ) → AreLined ps → IsGap ps key at place → (h : Record) → h.key ≡ key → IsRising (insert (joined ps) (place_of ps at place) h)
gap_rises ps key at place lined g h f = rising_insert (joined ps) key (place_of ps at place) (fits ps at lined g.held place g.within) g.before g.after h f lined.rising
