-- The filter of a tablet is over the stems of all its records.
use Rattle.std.proofs.Common.{◌≡◌, ◌⊎◌, ℕ, zero, suc, ◌<◌, Bool, true, false, cond, not, List, [], ◌∷◌, ◌++◌, length, get_or, refl, ap, subst, arith, inl, inr}
use Rattle.std.specs.Prelude.{Option, Some, None, Contains, nat_eq}
use Rattle.std.specs.Cmp.Lexicographic.{pointwise}
use Rattle.std.proofs.lemmas.List.Elements.{Contains-append_right}
use Rattle.lt_rec.specs.Record.{Record, stem_of}
use Rattle.lt_bloom.specs.Hash.{hash_of}
use Rattle.lt_layout.specs.Spelling.{differs, hashes_from}
use Rattle.lt_layout.proofs.Asked.{same_bytes}

-- the stem is that of the record before, or its hash is one of these
abbrev pub Has : Option (List ℕ) → List ℕ → List ℕ → Type 0
Has before stem hashes = (before ≡ Some stem) ⊎ Contains hashes (hash_of stem)

by_stems : (b stem tail : List ℕ) (same : Bool) → pointwise nat_eq b stem ≡ same → Has (Some b) stem (cond (not same) (hash_of stem ∷ []) [] ++ tail)
by_stems b stem tail true e = inl (ap Some (same_bytes b stem e))
by_stems b stem tail false e = inr (0, omega arith, refl)

by_head : (before : Option (List ℕ)) (stem tail : List ℕ) → Has before stem (cond (differs before stem) (hash_of stem ∷ []) [] ++ tail)
by_head None stem tail = inr (0, omega arith, refl)
by_head (Some b) stem tail = by_stems b stem tail (pointwise nat_eq b stem) refl

some_is : (a b : List ℕ) → Some a ≡ Some b → a ≡ b
some_is a b e = cc

pub has_hash : (before : Option (List ℕ)) (recs : List Record) (k : ℕ) (d : Record) → k < length recs → Has before (stem_of (get_or recs k d).key) (hashes_from before recs)
has_hash before [] k d h = absurd (omega (arith, h))
has_hash before (r ∷ recs) zero d h = by_head before (stem_of r.key) (hashes_from (Some (stem_of r.key)) recs)
has_hash before (r ∷ recs) (suc k) d h =
    let stem = stem_of (get_or recs k d).key in
    let front = cond (differs before (stem_of r.key)) (hash_of (stem_of r.key) ∷ []) [] in
    let tail = hashes_from (Some (stem_of r.key)) recs in
    elim (has_hash (Some (stem_of r.key)) recs k d (omega (arith, h))) [
      | inl same ↦ subst (λ (s : List ℕ). Has before s (front ++ tail)) (some_is (stem_of r.key) stem same) (by_head before (stem_of r.key) tail)
      | inr held ↦ inr (Contains-append_right front tail (hash_of stem) held)
    ]

none_before : (stem : List ℕ) → None ≡ Some stem → ⊥
none_before stem e = cc

pub hash_in : (recs : List Record) (k : ℕ) (d : Record) → k < length recs → Contains (hashes_from None recs) (hash_of (stem_of (get_or recs k d).key))
hash_in recs k d h = elim (has_hash None recs k d h) [
  | inl first ↦ absurd (none_before (stem_of (get_or recs k d).key) first)
  | inr held ↦ held
]
