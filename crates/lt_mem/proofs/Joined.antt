-- Pieces, one after the other.
use Rattle.std.proofs.Common.{◌≡◌, ℕ, suc, ◌+◌, ◌-◌, ◌<◌, ◌≤◌, List, [], ◌∷◌, ◌++◌, length, take, drop, set, insert, get_or, refl, sym, ap, subst, ◌∙◌, inl, inr, arith, append_assoc, append-nil, length-drop}
use Rattle.std.proofs.lemmas.List.{take-append-drop, drop_more, set_split, length-take-le, take-append-le, drop-append-le, get_or-set_same, get_or-set_other, length-set, get_or_default}
use Rattle.std.proofs.lemmas.List.Edits.{get_or-insert_at, get_or-insert_below, get_or-insert_above, length-insert}
use Rattle.std.proofs.Math.Seq.{take-append-add, drop-append-add}
use Rattle.std.proofs.lemmas.Bool.{cases_lt}
use Rattle.lt_rec.specs.Record.{Record}
use Rattle.lt_rec.specs.Records.{joined}
use Rattle.lt_mem.specs.Pieces.{first_key, piece_at, NoneIsEmpty}

pub joined-append : (ps qs : List (List Record)) → joined (ps ++ qs) ≡ joined ps ++ joined qs
joined-append [] qs = refl
joined-append (p ∷ ps) qs = ap (λ xs. p ++ xs) (joined-append ps qs) ∙ sym (append_assoc p (joined ps) (joined qs))

pub first_at : (xs : List Record) (d : Record) → 0 < length xs → (get_or xs 0 d).key ≡ first_key xs
first_at [] d h = absurd (omega arith)
first_at (x ∷ xs) d h = refl

-- the records before a piece, its own, and those after it
pub in_three : (ps : List (List Record)) (at : ℕ) → at < length ps → joined ps ≡ joined (take at ps) ++ (piece_at ps at ++ joined (drop (at + 1) ps))
in_three ps at h =
    ap joined (sym (take-append-drop at ps)) ∙ joined-append (take at ps) (drop at ps)
    ∙ ap (λ qs. joined (take at ps) ++ joined qs) (drop_more ps at [] h)

pub after_set : (ps : List (List Record)) (at : ℕ) (q : List Record) → at < length ps → joined (set ps at q) ≡ joined (take at ps) ++ (q ++ joined (drop (at + 1) ps))
after_set ps at q h =
    let s : suc at ≡ at + 1 = omega arith in
    ap joined (set_split ps at q h ∙ ap (λ k. take at ps ++ q ∷ drop k ps) s) ∙ joined-append (take at ps) (q ∷ drop (at + 1) ps)

-- a record inserted into the middle one of three lists
pub insert_middle : (a p c : List Record) (place : ℕ) (r : Record) → place ≤ length p → a ++ (insert p place r ++ c) ≡ insert (a ++ (p ++ c)) (length a + place) r
insert_middle [] p c place r h =
    let z : 0 + place ≡ place = omega arith in
    append_assoc (take place p) (r ∷ drop place p) c
    ∙ (λ i. sym (take-append-le place p c h) i ++ r ∷ sym (drop-append-le place p c h) i)
    ∙ ap (λ k. insert (p ++ c) k r) (sym z)
insert_middle (x ∷ xs) p c place r h =
    let s : suc (length xs) + place ≡ suc (length xs + place) = omega arith in
    ap (λ ys. x ∷ ys) (insert_middle xs p c place r h) ∙ ap (λ k. insert (x ∷ (xs ++ (p ++ c))) k r) (sym s)

pub insert_piece : (ps : List (List Record)) (at place : ℕ) (r : Record) → at < length ps → place ≤ length (piece_at ps at) → joined (set ps at (insert (piece_at ps at) place r)) ≡ insert (joined ps) (length (joined (take at ps)) + place) r
insert_piece ps at place r h w =
    after_set ps at (insert (piece_at ps at) place r) h
    ∙ insert_middle (joined (take at ps)) (piece_at ps at) (joined (drop (at + 1) ps)) place r w
    ∙ ap (λ xs. insert xs (length (joined (take at ps)) + place) r) (sym (in_three ps at h))

pub some_set : (ps : List (List Record)) (at : ℕ) (q : List Record) → at < length ps → NoneIsEmpty ps → 0 < length q → NoneIsEmpty (set ps at q)
some_set ps at q h some full k d w =
    let size = length-set ps at q in
    elim (cases_lt k at) [
      | inl low ↦ rw (get_or-set_other ps at k q d (λ z. omega arith)) (some k d (omega arith))
      | inr up ↦ elim (cases_lt at k) [
        | inl high ↦ rw (get_or-set_other ps at k q d (λ z. omega arith)) (some k d (omega arith))
        | inr same ↦ let s : k ≡ at = omega arith in rw (s, get_or-set_same ps at q d h) full
      ]
    ]

pub some_insert : (ps : List (List Record)) (at : ℕ) (q : List Record) → at ≤ length ps → NoneIsEmpty ps → 0 < length q → NoneIsEmpty (insert ps at q)
some_insert ps at q h some full k d w =
    let size = length-insert ps at q h in
    elim (cases_lt k at) [
      | inl low ↦ rw (get_or-insert_below ps at q d k low h) (some k d (omega arith))
      | inr up ↦ elim (cases_lt at k) [
        | inl high ↦
            let s : k ≡ (k - 1) + 1 = omega arith in
            let g : get_or (insert ps at q) k d ≡ get_or ps (k - 1) d = ap (λ j. get_or (insert ps at q) j d) s ∙ get_or-insert_above ps at q d (k - 1) (omega arith) h in
            rw g (some (k - 1) d (omega arith))
        | inr same ↦ let s : k ≡ at = omega arith in rw (s, get_or-insert_at ps at q d h) full
      ]
    ]

-- a piece in two
module _ (ps qs rs : List (List Record)) (at n : ℕ) (old low high : List Record) (held : at < length ps) (same : rs ≡ ps) (is : old ≡ get_or rs at old)
    (front : low ≡ take n old) (end : high ≡ drop n old) (edited : qs ≡ insert (set rs at low) (at + 1) high) where
  whole : piece_at ps at ≡ low ++ high
  whole =
      let w : at < length rs = (let e = ap length same in omega arith) in
      ap (λ xs. piece_at xs at) (sym same) ∙ sym (is ∙ get_or_default rs at old [] w) ∙ sym (take-append-drop n old) ∙ (λ i. sym front i ++ sym end i)

  pub split_same : joined qs ≡ joined ps
  split_same =
      let a = take at ps in
      let rest = drop (at + 1) ps in
      let size = length-take-le at ps (omega arith) in
      let s : suc at ≡ at + 1 = omega arith in
      let t : length a + 1 ≡ at + 1 = omega arith in
      let mid : set rs at low ≡ a ++ low ∷ rest = ap (λ xs. set xs at low) same ∙ set_split ps at low held ∙ ap (λ k. a ++ low ∷ drop k ps) s in
      let before : take (at + 1) (a ++ low ∷ rest) ≡ a ++ low ∷ [] = ap (λ k. take k (a ++ low ∷ rest)) (sym t) ∙ take-append-add a (low ∷ rest) 1 in
      let behind : drop (at + 1) (a ++ low ∷ rest) ≡ rest = ap (λ k. drop k (a ++ low ∷ rest)) (sym t) ∙ drop-append-add a (low ∷ rest) 1 in
      ap joined (edited ∙ ap (λ xs. insert xs (at + 1) high) mid ∙ (λ i. before i ++ high ∷ behind i))
      ∙ joined-append (a ++ low ∷ []) (high ∷ rest)
      ∙ ap (λ xs. xs ++ (high ++ joined rest)) (joined-append a (low ∷ []) ∙ ap (λ xs. joined a ++ xs) (append-nil low))
      ∙ append_assoc (joined a) low (high ++ joined rest)
      ∙ ap (λ xs. joined a ++ xs) (sym (append_assoc low high (joined rest)) ∙ ap (λ xs. xs ++ joined rest) (sym whole))
      ∙ sym (in_three ps at held)

  pub split_some : NoneIsEmpty ps → n < length old → 0 < n → NoneIsEmpty qs
  split_some full long some =
      let e = ap length same in
      let size = length-set rs at low in
      let l = ap length front ∙ length-take-le n old (omega arith) in
      let h = ap length end ∙ length-drop n old in
      subst NoneIsEmpty (sym edited)
      (some_insert (set rs at low) (at + 1) high (omega arith) (some_set rs at low (omega arith) (subst NoneIsEmpty (sym same) full) (omega arith)) (omega arith))
