-- What a filter keeps of records in the order of reading.
use Rattle.std.proofs.Common.{◌≡◌, ℕ, ◌+◌, ◌-◌, ◌<◌, ◌≤◌, ◌&&◌, Bool, true, false, List, [], ◌∷◌, ◌++◌, length, take, drop, reverse, filter, get_or, refl, sym, ap, subst, ◌∙◌, inl, inr, arith, append_assoc, append-nil, length-drop, add-one}
use Rattle.std.specs.List.{All, AllByRecursion}
use Rattle.std.proofs.lemmas.List.{take-append-drop, drop-take, drop-drop, take-take, take_all, length-take, get_or-take, get_or-drop, reverse-append, length-reverse, get_or-reverse}
use Rattle.std.proofs.lemmas.List.Elements.{filter-append, filter_more, recursion_from_All, All-append, All-take, All-drop}
use Rattle.std.proofs.lemmas.Bool.{cases_lt}
use Rattle.lt_rec.specs.Boxes.{in_box, meets_lo, meets_hi}
use Rattle.lt_rec.specs.Record.{Record}
use Rattle.lt_rec.specs.Records.{joined, piece}
use Rattle.lt_rec.specs.declared.raw_box.RawBox.{RawBox}
use Rattle.lt_mem.specs.Rising.{in_order}
use Rattle.lt_mem.specs.Pieces.{piece_at, has_time, NoneMeetsLo, NoneMeetsHi}
use Rattle.lt_mem.proofs.Joined.{joined-append}

none_kept : (p : Record → Bool) (xs : List Record) → AllByRecursion (λ x. p x ≡ false) xs → filter p xs ≡ []
none_kept p [] h = refl
none_kept p (x ∷ xs) h = rw h.0 (none_kept p xs h.1)

pub filter_none : (p : Record → Bool) (xs : List Record) → All (λ x. p x ≡ false) xs → filter p xs ≡ []
filter_none p xs h = none_kept p xs (recursion_from_All (λ x. p x ≡ false) xs h)

all_kept : (p : Record → Bool) (xs : List Record) → AllByRecursion (λ x. p x ≡ true) xs → filter p xs ≡ xs
all_kept p [] h = refl
all_kept p (x ∷ xs) h = rw h.0 (ap (λ ys. x ∷ ys) (all_kept p xs h.1))

pub filter_all : (p : Record → Bool) (xs : List Record) → All (λ x. p x ≡ true) xs → filter p xs ≡ xs
filter_all p xs h = all_kept p xs (recursion_from_All (λ x. p x ≡ true) xs h)

same_kept : (p q : Record → Bool) (xs : List Record) → AllByRecursion (λ x. p x ≡ q x) xs → filter p xs ≡ filter q xs
same_kept p q [] h = refl
same_kept p q (x ∷ xs) h = rw (h.0, same_kept p q xs h.1) refl

pub filter_same : (p q : Record → Bool) (xs : List Record) → All (λ x. p x ≡ q x) xs → filter p xs ≡ filter q xs
filter_same p q xs h = same_kept p q xs (recursion_from_All (λ x. p x ≡ q x) xs h)

pub all_in_order : (P : Record → Type 0) (down : Bool) (xs : List Record) → All P xs → All P (in_order down xs)
all_in_order P true xs all k d w =
    let n = length-reverse xs in
    subst P (sym (get_or-reverse xs k d (omega arith))) (all (length xs - 1 - k) d (omega arith))
all_in_order P false xs all k d w = all k d w

pub length_in_order : (down : Bool) (xs : List Record) → length (in_order down xs) ≡ length xs
length_in_order true xs = length-reverse xs
length_in_order false xs = refl

pub all_in_piece : (P : Record → Type 0) (xs : List Record) (from to : ℕ) (down : Bool) → All P xs → All P (piece xs from to down)
all_in_piece P xs from to down all = all_in_order P down (take (to - from) (drop from xs)) (All-take P (to - from) (drop from xs) (All-drop P from xs all))

-- all records of all pieces
pub all_joined : (P : Record → Type 0) (ps : List (List Record)) → ((k : ℕ) → k < length ps → All P (piece_at ps k)) → All P (joined ps)
all_joined P [] h k d w = absurd (omega arith)
all_joined P (p ∷ ps) h k d w = All-append P p (joined ps) (h 0 (omega arith)) (all_joined P ps (λ k w. subst (All P) (next p ps k) (h (k + 1) (omega arith)))) k d w
  where
    next : (p : List Record) (ps : List (List Record)) (k : ℕ) → piece_at (p ∷ ps) (k + 1) ≡ piece_at ps k
    next p ps k = rw add-one refl

-- of three parts, the first and the last of which have nothing that is kept
pub filter_middle : (p : Record → Bool) (down : Bool) (a m c : List Record) → All (λ x. p x ≡ false) a → All (λ x. p x ≡ false) c → filter p (in_order down (a ++ (m ++ c))) ≡ filter p (in_order down m)
filter_middle p false a m c ha hc =
    let rest : filter p (m ++ c) ≡ filter p m = filter-append p m c ∙ ap (λ ys. filter p m ++ ys) (filter_none p c hc) ∙ append-nil (filter p m) in
    filter-append p a (m ++ c) ∙ (λ i. filter_none p a ha i ++ rest i)
filter_middle p true a m c ha hc =
    let none_a : filter p (reverse a) ≡ [] = filter_none p (reverse a) (all_in_order (λ x. p x ≡ false) true a ha) in
    let none_c : filter p (reverse c) ≡ [] = filter_none p (reverse c) (all_in_order (λ x. p x ≡ false) true c hc) in
    let rest : filter p (reverse (m ++ c)) ≡ filter p (reverse m) =
    ap (filter p) (reverse-append m c) ∙ filter-append p (reverse c) (reverse m) ∙ ap (λ ys. ys ++ filter p (reverse m)) none_c in
    ap (filter p) (reverse-append a (m ++ c)) ∙ filter-append p (reverse (m ++ c)) (reverse a) ∙ (λ i. rest i ++ none_a i) ∙ append-nil (filter p (reverse m))

pub drop_front : {X : Type 0} (xs : List X) (from to : ℕ) → from ≤ to → drop from (take to xs) ≡ take (to - from) (drop from xs)
drop_front xs from to h =
    let e : to ≡ from + (to - from) = omega arith in
    ap (λ k. drop from (take k xs)) e ∙ drop-take from (to - from) xs

-- a list cut at two places
pub in_parts : (xs : List Record) (from to : ℕ) → from ≤ to → xs ≡ take from xs ++ (take (to - from) (drop from xs) ++ drop to xs)
in_parts xs from to h =
    let e : from + (to - from) ≡ to = omega arith in
    sym (take-append-drop from xs)
    ∙ ap (λ ys. take from xs ++ ys) (sym (take-append-drop (to - from) (drop from xs)) ∙ ap (λ ys. take (to - from) (drop from xs) ++ ys) (drop-drop (to - from) from xs ∙ ap (λ k. drop k xs) e))

pub pieces_in_parts : (ps : List (List Record)) (from to : ℕ) → joined ps ≡ joined (take from (take to ps)) ++ (joined (drop from (take to ps)) ++ joined (drop to ps))
pieces_in_parts ps from to =
    ap joined (sym (take-append-drop to ps)) ∙ joined-append (take to ps) (drop to ps)
    ∙ ap (λ xs. xs ++ joined (drop to ps)) (ap joined (sym (take-append-drop from (take to ps))) ∙ joined-append (take from (take to ps)) (drop from (take to ps)))
    ∙ append_assoc (joined (take from (take to ps))) (joined (drop from (take to ps))) (joined (drop to ps))

not_lo : (raw_box : RawBox) (x : Record) → meets_lo raw_box.lo x.key ≡ false → in_box raw_box x ≡ false
not_lo raw_box x e = rw e refl

not_hi : (raw_box : RawBox) (x : Record) → meets_hi raw_box.hi x.key ≡ false → in_box raw_box x ≡ false
not_hi raw_box x e = both (meets_lo raw_box.lo x.key) (meets_hi raw_box.hi x.key) (has_time raw_box x) e
  where
    both : (a b t : Bool) → b ≡ false → ((a && b) && t) ≡ false
    both true b t f = rw f refl
    both false b t f = refl

-- the pieces between two places have all records of the box
pub box_between : (raw_box : RawBox) (ps : List (List Record)) (from to : ℕ) (down : Bool) → to ≤ length ps → ((k : ℕ) → k < from → NoneMeetsLo raw_box (piece_at ps k)) → ((k : ℕ) → to ≤ k → k < length ps → NoneMeetsHi raw_box (piece_at ps k))
    → filter (in_box raw_box) (in_order down (joined ps)) ≡ filter (in_box raw_box) (in_order down (joined (drop from (take to ps))))
box_between raw_box ps from to down h before behind =
    ap (λ xs. filter (in_box raw_box) (in_order down xs)) (pieces_in_parts ps from to)
    ∙ filter_middle (in_box raw_box) down (joined (take from (take to ps))) (joined (drop from (take to ps))) (joined (drop to ps))
    (all_joined (λ x. in_box raw_box x ≡ false) (take from (take to ps)) (λ k w.
    let n = length-take from (take to ps) in
    let m = length-take to ps in
    let u : k < from = omega arith in
    let v : k < to = omega arith in
    let same : piece_at (take from (take to ps)) k ≡ piece_at ps k = get_or-take from (take to ps) k [] u ∙ get_or-take to ps k [] v in
    subst (All (λ x. in_box raw_box x ≡ false)) (sym same) (λ i d z. not_lo raw_box (get_or (piece_at ps k) i d) (before k u i d z))))
    (all_joined (λ x. in_box raw_box x ≡ false) (drop to ps) (λ k w.
    let n = length-drop to ps in
    subst (All (λ x. in_box raw_box x ≡ false)) (sym (get_or-drop to ps k [])) (λ i d z. not_hi raw_box (get_or (piece_at ps (to + k)) i d) (behind (to + k) (omega arith) (omega arith) i d z))))

-- the box's records are those between two places with a timestamp of the box
module _ (raw_box : RawBox) (xs : List Record) (from to : ℕ)
    (lo_before : (k : ℕ) (d : Record) → k < from → meets_lo raw_box.lo (get_or xs k d).key ≡ false) (lo_after : (k : ℕ) (d : Record) → from ≤ k → k < length xs → meets_lo raw_box.lo (get_or xs k d).key ≡ true)
    (hi_before : (k : ℕ) (d : Record) → k < to → meets_hi raw_box.hi (get_or xs k d).key ≡ true) (hi_after : (k : ℕ) (d : Record) → to ≤ k → k < length xs → meets_hi raw_box.hi (get_or xs k d).key ≡ false) where
  meets : (x : Record) → meets_lo raw_box.lo x.key ≡ true → meets_hi raw_box.hi x.key ≡ true → in_box raw_box x ≡ has_time raw_box x
  meets x e f = rw (e, f) refl

  pub box_middle : (down : Bool) → from ≤ to → filter (in_box raw_box) (in_order down xs) ≡ filter (has_time raw_box) (piece xs from to down)
  box_middle down h =
      let m = take (to - from) (drop from xs) in
      ap (λ ys. filter (in_box raw_box) (in_order down ys)) (in_parts xs from to h)
      ∙ filter_middle (in_box raw_box) down (take from xs) m (drop to xs)
      (λ k d w.
      let n = length-take from xs in
      let v : k < from = omega arith in
      rw (get_or-take from xs k d v) (not_lo raw_box (get_or xs k d) (lo_before k d v)))
      (λ k d w.
      let n = length-drop to xs in
      rw (get_or-drop to xs k d) (not_hi raw_box (get_or xs (to + k) d) (hi_after (to + k) d (omega arith) (omega arith))))
      ∙ filter_same (in_box raw_box) (has_time raw_box) (in_order down m)
      (all_in_order (λ x. in_box raw_box x ≡ has_time raw_box x) down m
      (λ k d w.
      let n = length-take (to - from) (drop from xs) in
      let l = length-drop from xs in
      let v : k < to - from = omega arith in
      rw (get_or-take (to - from) (drop from xs) k d v, get_or-drop from xs k d)
      (meets (get_or xs (from + k) d) (lo_after (from + k) d (omega arith) (omega arith)) (hi_before (from + k) d (omega arith)))))

  pub box_none : (down : Bool) → to ≤ from → filter (in_box raw_box) (in_order down xs) ≡ []
  box_none down h = filter_none (in_box raw_box) (in_order down xs) (all_in_order (λ x. in_box raw_box x ≡ false) down xs (λ k d w. elim (cases_lt k from) [
    | inl low ↦ not_lo raw_box (get_or xs k d) (lo_before k d low)
    | inr up ↦ not_hi raw_box (get_or xs k d) (hi_after k d (omega arith) w)
  ]))

-- a run of records that are kept, and the one behind it that is not
pub run_step : (p : Record → Bool) (ys : List Record) (start end : ℕ) → start ≤ end → end ≤ length ys
    → ((k : ℕ) (d : Record) → start ≤ k → k < end → p (get_or ys k d) ≡ true) → ((d : Record) → end < length ys → p (get_or ys end d) ≡ false)
    → filter p (take (end + 1) ys) ≡ filter p (take start ys) ++ take (end - start) (drop start ys)
run_step p ys start end h w timed ends = last ∙ front
  where
    d : Record
    d = record { key = []; ts = 0; seq = 0; ver = 0; body = [] }

    run : filter p (take (end - start) (drop start ys)) ≡ take (end - start) (drop start ys)
    run = filter_all p (take (end - start) (drop start ys)) (λ k d v.
        let n = length-take (end - start) (drop start ys) in
        let u : k < end - start = omega arith in
        rw (get_or-take (end - start) (drop start ys) k d u, get_or-drop start ys k d) (timed (start + k) d (omega arith) (omega arith)))

    front : filter p (take end ys) ≡ filter p (take start ys) ++ take (end - start) (drop start ys)
    front =
        ap (filter p) (sym (take-append-drop start (take end ys)) ∙ (λ i. take-take start end ys h i ++ drop_front ys start end h i))
        ∙ filter-append p (take start ys) (take (end - start) (drop start ys)) ∙ ap (λ zs. filter p (take start ys) ++ zs) run

    last : filter p (take (end + 1) ys) ≡ filter p (take end ys)
    last = elim (cases_lt end (length ys)) [
      | inl more ↦ filter_more p ys end d more ∙ rw (ends d more) (append-nil (filter p (take end ys)))
      | inr all ↦ ap (filter p) (take_all (end + 1) ys (omega arith) ∙ sym (take_all end ys all))
    ]
