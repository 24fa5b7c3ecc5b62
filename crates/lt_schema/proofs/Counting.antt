-- What is left to look at, past the end of a row or of its columns.
use Rattle.std.proofs.Common.{◌≡◌, ℕ, ◌≤◌, List, [], ◌∷◌, length, drop, refl, ◌∙◌}
use Rattle.std.specs.Prelude.{None}
use Rattle.std.proofs.lemmas.List.{at_drop_all}
use Rattle.lt_schema.specs.declared.value.Value.{Value}
use Rattle.lt_schema.specs.Shapes.{ColumnShape}
use Rattle.lt_schema.specs.Check.{wrong_kind_from, len_under}

len_under-no_values : (columns : List ColumnShape) → len_under columns [] ≡ 0
len_under-no_values [] = refl
len_under-no_values (column ∷ columns) = refl

-- past the last column
pub len_under-all : (columns : List ColumnShape) (values : List Value) (i : ℕ) → length columns ≤ i → len_under (drop i columns) (drop i values) ≡ 0
len_under-all columns values i past = at_drop_all (λ left. len_under left (drop i values)) columns i past

-- past the last value
pub len_under-short : (columns : List ColumnShape) (values : List Value) (i : ℕ) → length values ≤ i → len_under (drop i columns) (drop i values) ≡ 0
len_under-short columns values i past = at_drop_all (λ left. len_under (drop i columns) left) values i past ∙ len_under-no_values (drop i columns)

wrong_kind-no_values : (at : ℕ) (columns : List ColumnShape) → wrong_kind_from at columns [] ≡ None
wrong_kind-no_values at [] = refl
wrong_kind-no_values at (column ∷ columns) = refl

pub wrong_kind-all : (columns : List ColumnShape) (values : List Value) (i : ℕ) → length columns ≤ i → wrong_kind_from i (drop i columns) (drop i values) ≡ None
wrong_kind-all columns values i past = at_drop_all (λ left. wrong_kind_from i left (drop i values)) columns i past

pub wrong_kind-short : (columns : List ColumnShape) (values : List Value) (i : ℕ) → length values ≤ i → wrong_kind_from i (drop i columns) (drop i values) ≡ None
wrong_kind-short columns values i past = at_drop_all (λ left. wrong_kind_from i (drop i columns) left) values i past ∙ wrong_kind-no_values i (drop i columns)
