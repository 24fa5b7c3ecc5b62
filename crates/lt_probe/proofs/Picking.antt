-- The latest of records that are looked at one after the other.
use Rattle.std.proofs.Common.{◌≡◌, ◌⊎◌, ℕ, ◌+◌, ◌<◌, ◌≤◌, Bool, true, false, List, get_or, sym, ap, arith, inl, inr, subst, Equal}
use Rattle.std.specs.Prelude.{Option, Some, None, IfSome, MatchBool, MatchOption}
use Rattle.std.specs.Ordering.{nat_cmp, MatchOrdering}
use Rattle.std.specs.Cmp.{ranks}
use Rattle.std.proofs.lemmas.Bool.{cases_lt}
use Rattle.lt_rec.specs.Bytes.{is_less}
use Rattle.lt_rec.specs.Record.{Record}
use Rattle.lt_probe.specs.Latest.{IsUpTo, IsCovered}
use Rattle.lt_probe.specs.Picked.{AllEarlier, IsPicked}
use Rattle.lt_probe.proofs.Less.{less_not_back}

-- the place so far, and its timestamp
abbrev pub IsSoFar : List Record → (from at since most : ℕ) → Option ℕ → Type 0
IsSoFar recs from at since most None = (most ≡ since) × AllEarlier recs from at since
IsSoFar recs from at since most (Some place) = IsPicked recs from at since place × ((d : Record) → (get_or recs place d).ts ≡ most)

module _ (recs : List Record) (from at since most : ℕ) (x : Record) (begun : from ≤ at) (here : (d : Record) → get_or recs at d ≡ x) (least : since ≤ most) where
  pub later_picked : (place : Option ℕ) → IsSoFar recs from at since most place → most ≤ x.ts → IsSoFar recs from (at + 1) since x.ts (Some at)
  later_picked place h late = (
    record {
      above = begun;
      below = omega arith;
      late = λ d. omega (arith, ap (λ (r : Record). r.ts) (here d));
      latest = λ k d low high. elim (cases_lt k at) [
        | inl before ↦ earlier place h k d low before
        | inr same ↦
            let s : k ≡ at = omega arith in
            inr (ap (λ j. (get_or recs j d).ts) s, omega arith)
      ];
    },
    λ d. ap (λ (r : Record). r.ts) (here d),
  )
    where
      earlier : (o : Option ℕ) → IsSoFar recs from at since most o → (k : ℕ) (d : Record) → from ≤ k → k < at → ((get_or recs k d).ts < (get_or recs at d).ts) ⊎ (((get_or recs k d).ts ≡ (get_or recs at d).ts) × (k ≤ at))
      earlier None s k d low before = inl (omega (arith, s.1 k d low before, ap (λ (r : Record). r.ts) (here d)))
      earlier (Some p) s k d low before = elim (s.0.latest k d low before) [
        | inl less ↦ inl (omega (arith, less, s.1 d, ap (λ (r : Record). r.ts) (here d)))
        | inr tied ↦ elim (cases_lt (get_or recs k d).ts (get_or recs at d).ts) [
          | inl less ↦ inl less
          | inr more ↦ inr (omega (arith, tied.0, s.1 d, more, ap (λ (r : Record). r.ts) (here d)), omega arith)
        ]
      ]

  pub earlier_passed : (place : Option ℕ) → IsSoFar recs from at since most place → x.ts < most → IsSoFar recs from (at + 1) since most place
  earlier_passed None h early = (
    h.0,
    λ k d low high. elim (cases_lt k at) [
      | inl before ↦ h.1 k d low before
      | inr same ↦
          let s : k ≡ at = omega arith in
          omega (arith, h.0, ap (λ j. (get_or recs j d).ts) s, ap (λ (r : Record). r.ts) (here d))
    ],
  )
  earlier_passed (Some place) h early = (
    record {
      above = h.0.above;
      below = omega (arith, h.0.below);
      late = h.0.late;
      latest = λ k d low high. elim (cases_lt k at) [
        | inl before ↦ h.0.latest k d low before
        | inr same ↦
            let s : k ≡ at = omega arith in
            inl (omega (arith, h.1 d, ap (λ j. (get_or recs j d).ts) s, ap (λ (r : Record). r.ts) (here d)))
      ];
    },
    h.1,
  )

pub by_key : (b : Bool) (best rec : Record) → best.ts ≡ rec.ts → b ≡ is_less best.key rec.key → MatchBool b (IsUpTo best rec) (IsUpTo rec best)
by_key true best rec same e = inr (same, less_not_back best.key rec.key (sym e))
by_key false best rec same e = inr (sym same, sym e)

-- all places were looked at, or the last one comes before the first
pub all_picked : (recs : List Record) (from at to since most : ℕ) (place : Option ℕ) → to ≤ at → (from ≤ to → at ≤ to) → (to ≤ from → at ≤ from) → IsSoFar recs from at since most place → MatchOption place (AllEarlier recs from to since) (IsPicked recs from to since)
all_picked recs from at to since most None over within crossed h = λ k d low high. h.1 k d low (omega (arith, high, over))
all_picked recs from at to since most (Some p) over within crossed h =
    let below : p < to = elim (cases_lt to from) [
      | inl cross ↦ absurd (omega (arith, crossed (omega arith), h.0.above, h.0.below))
      | inr straight ↦ omega (arith, within straight, h.0.below)
    ] in
    record {
      above = h.0.above;
      below = below;
      late = h.0.late;
      latest = λ k d low high. h.0.latest k d low (omega (arith, high, over));
    }

tied : (x y : ℕ) → Equal ≡ nat_cmp x y → x ≡ y
tied x y e = subst (λ o. MatchOrdering o (x < y) (x ≡ y) (y < x)) (sym e) (ranks x y)

pub by_key_of : (b : Bool) (o : Option Record) (best rec : Record) → o ≡ Some best → Equal ≡ nat_cmp best.ts rec.ts → b ≡ is_less best.key rec.key → MatchBool b (IfSome o (λ x. IsUpTo x rec)) (IsCovered o rec)
by_key_of b o best rec is same e = rw is (by_key b best rec (tied best.ts rec.ts same) e)
