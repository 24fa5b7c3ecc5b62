use Rattle.std.proofs.Common.{◌≡◌, ℕ, nat_eq, refl, sym, subst, ◌∙◌, inl, inr, eq-eqb}
use Rattle.std.specs.List.Sorted.{IsPermutation, IsStrictlyIncreasing}
use Rattle.std.proofs.lemmas.List.Sorted.{IsNonDecreasingBy-from_sort, IsPermutation-refl}
use Rattle.std.proofs.lemmas.Map.Keys.{IsDistinct-IsPermutation, IsStrictlyIncreasing-from_distinct}
use Rattle.std.proofs.lemmas.Bool.{cases_Bool, eqb-true, ne_eqb, true≢false}
use Rattle.lt_deps.proofs.Rows.{distinct_from_places}
use Rattle.lt_deps.proofs.places.rising.Goals as goal

flips : (x y : ℕ) → nat_eq x y ≡ nat_eq y x
flips x y = elim (cases_Bool (nat_eq x y)) [
  | inl e ↦ e ∙ sym (eq-eqb y x (sym (eqb-true x y e)))
  | inr e ↦ e ∙ sym (ne_eqb y x (λ s. true≢false (sym (eq-eqb x y (sym s)) ∙ e)))
]

pub returns-then-rises : goal.returns-then-rises
returns-then-rises c =
    let xs = c.args.tablets.now in
    let same = c.in_ok-found.ensures.items in
    record {
      same = subst (IsPermutation xs) (sym same) (IsPermutation-refl xs);
      rising = λ distinct. subst IsStrictlyIncreasing (sym same) (c.if-rises.ensures refl);
    }

pub returns : goal.returns
returns c =
    let xs = c.args.tablets.now in
    let found = c.sort.new.self.items in
    let moved : IsPermutation xs found = subst (λ ys. IsPermutation ys found) c.in_ok-found.ensures.items c.sort.ensures.permutation in
    record {
      same = moved;
      rising = λ distinct. IsStrictlyIncreasing-from_distinct found (IsNonDecreasingBy-from_sort (λ x. x) found c.in_ok-sort.ensures.sorted)
          (IsDistinct-IsPermutation nat_eq flips xs found moved (distinct_from_places xs distinct));
    }
