-- Heads in the order in which they are taken, the next one last.
use Rattle.std.proofs.Common.{◌≡◌, ℕ, ◌+◌, ◌-◌, ◌<◌, ◌≤◌, Bool, true, List, [], ◌∷◌, ◌++◌, length, get_or, insert, sym, ap, subst, ◌∙◌, inl, inr, arith}
use Rattle.std.proofs.lemmas.List.Edits.{get_or-insert_at, get_or-insert_below, get_or-insert_above, length-insert}
use Rattle.std.proofs.lemmas.List.{get_or_default}
use Rattle.std.proofs.lemmas.Bool.{cases_lt}
use Rattle.std.proofs.Math.ListN.{get_or-append}
use Rattle.std.proofs.Math.Seq.{get_or-append_seam}
use Rattle.std.proofs.Common.{length-append}
use Rattle.lt_kway.specs.Heads.{is_before, AreRanked, NoneHas}
use Rattle.lt_kway.specs.declared.head.Head.{Head}
use Rattle.lt_kway.proofs.Order.{before_trans, before_differs}

-- heads below and from a place on, as seen from the head in the middle
module _ (down : Bool) (xs : List Head) (ranked : AreRanked down xs) (key : List ℕ) (mid : ℕ) (x : Head) (held : mid < length xs) (here : x ≡ get_or xs mid x) where
  at_mid : (d : Head) → get_or xs mid d ≡ x
  at_mid d = get_or_default xs mid d x held ∙ sym here

  pub all_later : is_before down key x.rec.key ≡ true → (k : ℕ) (d : Head) → k < mid + 1 → is_before down key (get_or xs k d).rec.key ≡ true
  all_later b k d h = elim (cases_lt k mid) [
    | inl low ↦ before_trans down key (get_or xs mid d).rec.key (get_or xs k d).rec.key (ap (λ (y : Head). is_before down key y.rec.key) (at_mid d) ∙ b) (ranked k mid d low held)
    | inr up ↦
        let same : k ≡ mid = omega arith in
        ap (λ j. is_before down key (get_or xs j d).rec.key) same ∙ ap (λ (y : Head). is_before down key y.rec.key) (at_mid d) ∙ b
  ]

  pub all_earlier : is_before down x.rec.key key ≡ true → (k : ℕ) (d : Head) → mid ≤ k → k < length xs → is_before down (get_or xs k d).rec.key key ≡ true
  all_earlier b k d h w = elim (cases_lt mid k) [
    | inl up ↦ before_trans down (get_or xs k d).rec.key (get_or xs mid d).rec.key key (ranked mid k d up w) (ap (λ (y : Head). is_before down y.rec.key key) (at_mid d) ∙ b)
    | inr low ↦
        let same : k ≡ mid = omega arith in
        ap (λ j. is_before down (get_or xs j d).rec.key key) same ∙ ap (λ (y : Head). is_before down y.rec.key key) (at_mid d) ∙ b
  ]

-- a head put where it belongs
module _ (down : Bool) (xs slice : List Head) (key : List ℕ) (place : ℕ) (h : Head) (e : slice ≡ xs) (f : key ≡ h.rec.key) (ranked : AreRanked down xs) (within : place ≤ length slice)
    (later : (k : ℕ) (d : Head) → k < place → is_before down key (get_or slice k d).rec.key ≡ true)
    (earlier : (k : ℕ) (d : Head) → place ≤ k → k < length slice → is_before down (get_or slice k d).rec.key key ≡ true) where
  fits : place ≤ length xs
  fits = subst (λ (ys : List Head). place ≤ length ys) e within

  after : (k : ℕ) (d : Head) → k < place → is_before down h.rec.key (get_or xs k d).rec.key ≡ true
  after k d w = subst (λ (ys : List Head). is_before down h.rec.key (get_or ys k d).rec.key ≡ true) e (ap (λ a. is_before down a (get_or slice k d).rec.key) (sym f) ∙ later k d w)

  ahead : (k : ℕ) (d : Head) → place ≤ k → k < length xs → is_before down (get_or xs k d).rec.key h.rec.key ≡ true
  ahead k d w v =
      let long = ap length e in
      subst (λ (ys : List Head). is_before down (get_or ys k d).rec.key h.rec.key ≡ true) e (ap (λ a. is_before down (get_or slice k d).rec.key a) (sym f) ∙ earlier k d w (omega arith))

  pub none_has : NoneHas xs h.rec.key
  none_has k d w = elim (cases_lt k place) [
    | inl low ↦ λ s. before_differs down h.rec.key (get_or xs k d).rec.key (after k d low) (sym s)
    | inr up ↦ before_differs down (get_or xs k d).rec.key h.rec.key (ahead k d up w)
  ]

  below : (k : ℕ) (d : Head) → k < place → get_or (insert xs place h) k d ≡ get_or xs k d
  below k d w = get_or-insert_below xs place h d k w fits

  above : (k : ℕ) (d : Head) → place < k → get_or (insert xs place h) k d ≡ get_or xs (k - 1) d
  above k d w =
      let s : k ≡ (k - 1) + 1 = omega arith in
      ap (λ j. get_or (insert xs place h) j d) s ∙ get_or-insert_above xs place h d (k - 1) (omega arith) fits

  at : (k : ℕ) (d : Head) → k ≡ place → get_or (insert xs place h) k d ≡ h
  at k d s = ap (λ j. get_or (insert xs place h) j d) s ∙ get_or-insert_at xs place h d fits

  both : (i j : ℕ) (d a b : Head) → get_or (insert xs place h) i d ≡ a → get_or (insert xs place h) j d ≡ b → is_before down b.rec.key a.rec.key ≡ true → is_before down (get_or (insert xs place h) j d).rec.key (get_or (insert xs place h) i d).rec.key ≡ true
  both i j d a b p q r = ap (λ (y : Head). is_before down y.rec.key (get_or (insert xs place h) i d).rec.key) q ∙ ap (λ (y : Head). is_before down b.rec.key y.rec.key) p ∙ r

  pub ranked_insert : AreRanked down (insert xs place h)
  ranked_insert i j d lt w =
      let long = length-insert xs place h fits in
      elim (cases_lt j place) [
        | inl low ↦ both i j d _ _ (below i d (omega arith)) (below j d low) (ranked i j d lt (omega (arith, fits)))
        | inr up ↦ elim (cases_lt place j) [
          | inl over ↦ elim (cases_lt i place) [
            | inl under ↦ both i j d _ _ (below i d under) (above j d over) (ranked i (j - 1) d (omega arith) (omega arith))
            | inr past ↦ elim (cases_lt place i) [
              | inl far ↦ both i j d _ _ (above i d far) (above j d over) (ranked (i - 1) (j - 1) d (omega arith) (omega arith))
              | inr same ↦ both i j d _ _ (at i d (omega arith)) (above j d over) (ahead (j - 1) d (omega arith) (omega arith))
            ]
          ]
          | inr same ↦ both i j d _ _ (below i d (omega arith)) (at j d (omega arith)) (after i d (omega arith))
        ]
      ]

-- the last head is read before all the others
pub last_first : (down : Bool) (ys xs : List Head) (h : Head) → xs ≡ ys ++ h ∷ [] → AreRanked down xs → (k : ℕ) (d : Head) → k < length ys → is_before down h.rec.key (get_or ys k d).rec.key ≡ true
last_first down ys xs h e ranked k d w =
    let long = length-append ys (h ∷ []) in
    let r : is_before down (get_or (ys ++ h ∷ []) (length ys) d).rec.key (get_or (ys ++ h ∷ []) k d).rec.key ≡ true = subst (AreRanked down) e ranked k (length ys) d w (omega arith) in
    ap (λ (y : Head). is_before down y.rec.key (get_or ys k d).rec.key) (sym (get_or-append_seam ys h [] d))
    ∙ ap (λ (y : Head). is_before down (get_or (ys ++ h ∷ []) (length ys) d).rec.key y.rec.key) (sym (get_or-append ys (h ∷ []) d k w)) ∙ r
