-- Values are equal exactly where their comparison says so.
use Rattle.std.proofs.Common.{◌≡◌, true, List, ap}
use Rattle.std.specs.Cmp.Lexicographic.{pointwise, pointwise_decides, bytes_decides}
use Rattle.std.proofs.lemmas.Bool.Decides.{Decides-int_eq}
use Rattle.lt_schema.specs.declared.value.Value.{Value}
use Rattle.lt_schema.specs.declared.value.Value.TheVariants.{Int, Text, Blob}
use Rattle.lt_schema.specs.contracts.value.ValuePartialEq.TheImpl.{eq-value}

pub value_decides : (x y : Value) → (eq-value.it x y ≡ true → x ≡ y) × (x ≡ y → eq-value.it x y ≡ true)
value_decides (Int x) (Int y) = (λ e. ap Int ((Decides-int_eq x y).0 e), λ e. (Decides-int_eq x y).1 (cc))
value_decides (Text x) (Text y) = (λ e. ap Text ((bytes_decides x y).0 e), λ e. (bytes_decides x y).1 (cc))
value_decides (Blob x) (Blob y) = (λ e. ap Blob ((bytes_decides x y).0 e), λ e. (bytes_decides x y).1 (cc))
value_decides (Int x) (Text y) = (λ e. absurd (cc), λ e. absurd (cc))
value_decides (Int x) (Blob y) = (λ e. absurd (cc), λ e. absurd (cc))
value_decides (Text x) (Int y) = (λ e. absurd (cc), λ e. absurd (cc))
value_decides (Text x) (Blob y) = (λ e. absurd (cc), λ e. absurd (cc))
value_decides (Blob x) (Int y) = (λ e. absurd (cc), λ e. absurd (cc))
value_decides (Blob x) (Text y) = (λ e. absurd (cc), λ e. absurd (cc))

pub values_decide : (xs ys : List Value) → (pointwise eq-value.it xs ys ≡ true → xs ≡ ys) × (xs ≡ ys → pointwise eq-value.it xs ys ≡ true)
values_decide = pointwise_decides value_decides
