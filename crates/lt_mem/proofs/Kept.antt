-- What is kept beside the records, with one record more.
use Rattle.std.proofs.Common.{◌≡◌, ℕ, ◌+◌, ◌-◌, ◌<◌, ◌≤◌, List, length, insert, min, max, get_or, Option, Some, None, refl, sym, ap, subst, ◌∙◌, inl, inr, arith}
use Rattle.std.specs.List.{All, Any}
use Rattle.std.proofs.lemmas.List.Edits.{get_or-insert_at, get_or-insert_below, get_or-insert_above, length-insert}
use Rattle.std.proofs.lemmas.List.Sorted.{IsPermutation-insert, sum_by_pushed}
use Rattle.std.proofs.lemmas.Bool.{cases_lt}
use Rattle.lt_rec.specs.Record.{Record, stored_len}
use Rattle.lt_mem.specs.Pieces.{AreWithin}
use Rattle.lt_mem.specs.Rising.{SpansOf, Gains, all_stored, widened_by}

module _ (xs : List Record) (n : ℕ) (r : Record) (within : n ≤ length xs) where
  over : (k : ℕ) (d : Record) → n < k → get_or (insert xs n r) k d ≡ get_or xs (k - 1) d
  over k d w =
      let s : k ≡ (k - 1) + 1 = omega arith in
      ap (λ j. get_or (insert xs n r) j d) s ∙ get_or-insert_above xs n r d (k - 1) (omega arith) within

  all_insert : (P : Record → Type 0) → All P xs → P r → All P (insert xs n r)
  all_insert P all here k d w =
      let size = length-insert xs n r within in
      elim (cases_lt k n) [
        | inl low ↦ subst P (sym (get_or-insert_below xs n r d k low within)) (all k d (omega arith))
        | inr up ↦ elim (cases_lt n k) [
          | inl high ↦ subst P (sym (over k d high)) (all (k - 1) d (omega arith))
          | inr same ↦
              let s : k ≡ n = omega arith in
              subst P (sym (ap (λ j. get_or (insert xs n r) j d) s ∙ get_or-insert_at xs n r d within)) here
        ]
      ]

  any_here : (P : Record → Type 0) → P r → Any P (insert xs n r)
  any_here P here = let size = length-insert xs n r within in (n, r, omega arith, get_or-insert_at xs n r r within, here)

  any_insert : (P : Record → Type 0) → Any P xs → Any P (insert xs n r)
  any_insert P any =
      let size = length-insert xs n r within in
      let h = any.2 in
      elim (cases_lt any.0 n) [
        | inl low ↦ (any.0, any.1, omega arith, get_or-insert_below xs n r any.1 any.0 low within ∙ any.3, any.4)
        | inr up ↦ (any.0 + 1, any.1, omega arith, get_or-insert_above xs n r any.1 any.0 up within ∙ any.3, any.4)
      ]

  pub spans_more : (of : Record → ℕ) (o : Option (ℕ × ℕ)) → SpansOf of xs o → SpansOf of (insert xs n r) (widened_by o (of r))
  spans_more of None e = record {
    above = all_insert (λ x. of r ≤ of x) (λ k d w. let z = ap length e in absurd (omega arith)) (omega arith);
    below = all_insert (λ x. of x ≤ of r) (λ k d w. let z = ap length e in absurd (omega arith)) (omega arith);
    low_is = any_here (λ x. of x ≡ of r) refl;
    high_is = any_here (λ x. of x ≡ of r) refl;
  }
  spans_more of (Some p) s = record {
    above = all_insert (λ x. min p.0 (of r) ≤ of x) (λ k d w. let h = s.above k d w in omega arith) (omega arith);
    below = all_insert (λ x. of x ≤ max p.1 (of r)) (λ k d w. let h = s.below k d w in omega arith) (omega arith);
    low_is = elim (cases_lt (of r) p.0) [
      | inl new ↦ any_here (λ x. of x ≡ min p.0 (of r)) (omega arith)
      | inr old ↦ let e : p.0 ≡ min p.0 (of r) = omega arith in subst (λ m. Any (λ x. of x ≡ m) (insert xs n r)) e (any_insert (λ x. of x ≡ p.0) s.low_is)
    ];
    high_is = elim (cases_lt p.1 (of r)) [
      | inl new ↦ any_here (λ x. of x ≡ max p.1 (of r)) (omega arith)
      | inr old ↦ let e : p.1 ≡ max p.1 (of r) = omega arith in subst (λ m. Any (λ x. of x ≡ m) (insert xs n r)) e (any_insert (λ x. of x ≡ p.1) s.high_is)
    ];
  }

  pub stored_more : all_stored (insert xs n r) ≡ stored_len r + all_stored xs
  stored_more = sum_by_pushed stored_len r xs (insert xs n r) (IsPermutation-insert xs n r)

-- two timestamps that all lie between, with one more
pub times_put : (xs : List Record) (n : ℕ) (r : Record) (low high : ℕ) → n ≤ length xs → AreWithin xs low high → AreWithin (insert xs n r) (min low r.ts) (max high r.ts)
times_put xs n r low high within was =
    all_insert xs n r within (λ x. (min low r.ts ≤ x.ts) × (x.ts ≤ max high r.ts)) (λ k d w. let h = was k d w in (omega (arith, h.0), omega (arith, h.1))) (omega arith, omega arith)

pub spans_gained : (xs ys : List Record) (r : Record) → Gains xs ys r → (of : Record → ℕ) (o : Option (ℕ × ℕ)) → SpansOf of xs o → SpansOf of ys (widened_by o (of r))
spans_gained xs ys r g of o s = subst (λ (zs : List Record). SpansOf of zs (widened_by o (of r))) (sym g.2) (spans_more xs g.0 r g.1 of o s)

pub stored_gained : (xs ys : List Record) (r : Record) → Gains xs ys r → all_stored ys ≡ stored_len r + all_stored xs
stored_gained xs ys r g = ap all_stored g.2 ∙ stored_more xs g.0 r g.1
