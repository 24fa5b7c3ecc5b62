-- Values are in a total order, and so are keys.
use Rattle.std.specs.Prelude.{◌≡◌, refl}
use Rattle.std.specs.Ordering.{ordering_reverse}
use Rattle.std.specs.declared.cmp.Ordering.TheVariants.{Less, Equal}
use Rattle.std.specs.Cmp.{IsTotalOrder, int_cmp_total}
use Rattle.std.specs.Cmp.Lexicographic.{lists_total, nat_list_cmp_total}
use Rattle.lt_schema.specs.declared.value.Value.{Value}
use Rattle.lt_schema.specs.declared.value.Value.TheVariants.{Int, Text, Blob}
use Rattle.lt_schema.specs.Values.{value_cmp, key_cmp}

antisymm : (x y : Value) → value_cmp x y ≡ ordering_reverse (value_cmp y x)
antisymm (Int x) (Int y) = int_cmp_total.antisymm x y
antisymm (Int x) (Text y) = refl
antisymm (Int x) (Blob y) = refl
antisymm (Text x) (Int y) = refl
antisymm (Text x) (Text y) = nat_list_cmp_total.antisymm x y
antisymm (Text x) (Blob y) = refl
antisymm (Blob x) (Int y) = refl
antisymm (Blob x) (Text y) = refl
antisymm (Blob x) (Blob y) = nat_list_cmp_total.antisymm x y

trans : (x y z : Value) → value_cmp x y ≡ Less → value_cmp y z ≡ Less → value_cmp x z ≡ Less
trans (Int x) (Int y) (Int z) p q = int_cmp_total.trans x y z p q
trans (Int x) (Int y) (Text z) p q = refl
trans (Int x) (Int y) (Blob z) p q = refl
trans (Int x) (Text y) (Int z) p q = absurd (cc)
trans (Int x) (Text y) (Text z) p q = refl
trans (Int x) (Text y) (Blob z) p q = refl
trans (Int x) (Blob y) (Int z) p q = absurd (cc)
trans (Int x) (Blob y) (Text z) p q = refl
trans (Int x) (Blob y) (Blob z) p q = refl
trans (Text x) (Int y) (Int z) p q = absurd (cc)
trans (Text x) (Int y) (Text z) p q = absurd (cc)
trans (Text x) (Int y) (Blob z) p q = refl
trans (Text x) (Text y) (Int z) p q = absurd (cc)
trans (Text x) (Text y) (Text z) p q = nat_list_cmp_total.trans x y z p q
trans (Text x) (Text y) (Blob z) p q = refl
trans (Text x) (Blob y) (Int z) p q = absurd (cc)
trans (Text x) (Blob y) (Text z) p q = absurd (cc)
trans (Text x) (Blob y) (Blob z) p q = refl
trans (Blob x) (Int y) (Int z) p q = absurd (cc)
trans (Blob x) (Int y) (Text z) p q = absurd (cc)
trans (Blob x) (Int y) (Blob z) p q = absurd (cc)
trans (Blob x) (Text y) (Int z) p q = absurd (cc)
trans (Blob x) (Text y) (Text z) p q = absurd (cc)
trans (Blob x) (Text y) (Blob z) p q = absurd (cc)
trans (Blob x) (Blob y) (Int z) p q = absurd (cc)
trans (Blob x) (Blob y) (Text z) p q = absurd (cc)
trans (Blob x) (Blob y) (Blob z) p q = nat_list_cmp_total.trans x y z p q

congr : (x y z : Value) → value_cmp x y ≡ Equal → value_cmp x z ≡ value_cmp y z
congr (Int x) (Int y) (Int z) p = int_cmp_total.congr x y z p
congr (Int x) (Int y) (Text z) p = refl
congr (Int x) (Int y) (Blob z) p = refl
congr (Int x) (Text y) (Int z) p = absurd (cc)
congr (Int x) (Text y) (Text z) p = absurd (cc)
congr (Int x) (Text y) (Blob z) p = absurd (cc)
congr (Int x) (Blob y) (Int z) p = absurd (cc)
congr (Int x) (Blob y) (Text z) p = absurd (cc)
congr (Int x) (Blob y) (Blob z) p = absurd (cc)
congr (Text x) (Int y) (Int z) p = absurd (cc)
congr (Text x) (Int y) (Text z) p = absurd (cc)
congr (Text x) (Int y) (Blob z) p = absurd (cc)
congr (Text x) (Text y) (Int z) p = refl
congr (Text x) (Text y) (Text z) p = nat_list_cmp_total.congr x y z p
congr (Text x) (Text y) (Blob z) p = refl
congr (Text x) (Blob y) (Int z) p = absurd (cc)
congr (Text x) (Blob y) (Text z) p = absurd (cc)
congr (Text x) (Blob y) (Blob z) p = absurd (cc)
congr (Blob x) (Int y) (Int z) p = absurd (cc)
congr (Blob x) (Int y) (Text z) p = absurd (cc)
congr (Blob x) (Int y) (Blob z) p = absurd (cc)
congr (Blob x) (Text y) (Int z) p = absurd (cc)
congr (Blob x) (Text y) (Text z) p = absurd (cc)
congr (Blob x) (Text y) (Blob z) p = absurd (cc)
congr (Blob x) (Blob y) (Int z) p = refl
congr (Blob x) (Blob y) (Text z) p = refl
congr (Blob x) (Blob y) (Blob z) p = nat_list_cmp_total.congr x y z p

pub value_cmp_total : IsTotalOrder value_cmp
value_cmp_total = record { antisymm = antisymm; trans = trans; congr = congr }

pub key_cmp_total : IsTotalOrder key_cmp
key_cmp_total = lists_total value_cmp_total
