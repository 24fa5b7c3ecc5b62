-- A walk over the whole of a tablet leaves nothing out.
use Rattle.std.proofs.Common.{◌≡◌, ℕ, suc, ◌+◌, ◌≤◌, List, [], ◌∷◌, length, filter, refl, ap, arith}
use Rattle.std.specs.Prelude.{None}
use Rattle.std.specs.List.{All, AllByRecursion, sum_by}
use Rattle.std.proofs.lemmas.Bool.{le-leb}
use Rattle.std.proofs.lemmas.List.Elements.{recursion_from_All}
use Rattle.std.proofs.lemmas.List.Sums.{sum_by-cons}
use Rattle.lt_rec.specs.Boxes.{in_box}
use Rattle.lt_rec.specs.Record.{Record}

one_more : (n s all one : ℕ) → n ≤ s → all ≡ one + s → 1 ≤ one → suc n ≤ all
one_more n s all one less sum some = omega arith

-- no more elements than their sum, where each counts for something
pub no_more : (size : Record → ℕ) → ((r : Record) → 1 ≤ size r) → (recs : List Record) → length recs ≤ sum_by size recs
no_more size some [] = omega arith
no_more size some (r ∷ recs) = one_more (length recs) (sum_by size recs) (sum_by size (r ∷ recs)) (size r) (no_more size some recs) (sum_by-cons size r recs) (some r)

each_passes : (from to : ℕ) (recs : List Record) → AllByRecursion (λ r. from ≤ r.ts) recs → AllByRecursion (λ r. r.ts ≤ to) recs
    → filter (in_box (record { lo = None; hi = None; from = from; to = to })) recs ≡ recs
each_passes from to [] above below = refl
each_passes from to (r ∷ recs) above below = rw (le-leb from r.ts above.0, le-leb r.ts to below.0) (ap (λ (rs : List Record). r ∷ rs) (each_passes from to recs above.1 below.1))

-- a box without bounds of keys, from the least to the greatest timestamp
pub all_pass : (from to : ℕ) (recs : List Record) → All (λ r. from ≤ r.ts) recs → All (λ r. r.ts ≤ to) recs → filter (in_box (record { lo = None; hi = None; from = from; to = to })) recs ≡ recs
all_pass from to recs above below = each_passes from to recs (recursion_from_All (λ r. from ≤ r.ts) recs above) (recursion_from_All (λ r. r.ts ≤ to) recs below)
