-- The order of values, of keys and of rows; lists of rows that rise.
use Rattle.std.proofs.Common.{◌≡◌, ◌≢◌, ◌⊎◌, inl, inr, ℕ, zero, suc, ◌+◌, ◌≤◌, Bool, true, false, List, [], ◌∷◌, refl, sym, ap, subst, ◌∙◌, arith}
use Rattle.std.specs.Prelude.{⊤, IsTrue, Contains, sum_by}
use Rattle.std.specs.Ordering.{is_lt, is_le, ordering_reverse, ordering_then}
use Rattle.std.specs.List.{AllByRecursion, slice_index_or}
use Rattle.std.specs.List.Sorted.{IsSorted}
use Rattle.std.specs.Cmp.{IsTotalOrder}
use Rattle.std.specs.declared.cmp.Ordering.{Ordering}
use Rattle.std.specs.declared.cmp.Ordering.TheVariants.{Less, Equal, Greater}
use Rattle.std.proofs.lemmas.Cmp.{int_cmp_total, nat_list_cmp_total, lists_total}
use Rattle.std.proofs.lemmas.Map.Lookups.{CmpEqualImpliesEq, exact_signed, exact_bytes}
use Rattle.std.proofs.lemmas.List.Sums.{sum_by-cons}
use Rattle.std.proofs.lemmas.List.Elements.{Contains-append_right}
use Rattle.lt_schema.specs.declared.value.Value.{Value}
use Rattle.lt_schema.specs.declared.value.Value.TheVariants.{Int, Text, Blob}
use Rattle.lt_schema.specs.Shapes.{SchemaShape}
use Rattle.lt_schema.specs.Values.{value_cmp, key_cmp}
use Rattle.lt_schema.specs.Check.{key_of}
use Rattle.lt_model.specs.Answer.{row_cmp}
use Rattle.lt_model.proofs.Verdicts.{keys_decided, Contains-cons_cases, AllByRecursion-contains}

value_cmp_exact : CmpEqualImpliesEq value_cmp
value_cmp_exact (Int x) (Int y) same = ap Int (exact_signed x y same)
value_cmp_exact (Int x) (Text y) same = cc
value_cmp_exact (Int x) (Blob y) same = cc
value_cmp_exact (Text x) (Int y) same = cc
value_cmp_exact (Text x) (Text y) same = ap Text (exact_bytes x y same)
value_cmp_exact (Text x) (Blob y) same = cc
value_cmp_exact (Blob x) (Int y) same = cc
value_cmp_exact (Blob x) (Text y) same = cc
value_cmp_exact (Blob x) (Blob y) same = ap Blob (exact_bytes x y same)

value_cmp_antisymm : (x y : Value) → value_cmp x y ≡ ordering_reverse (value_cmp y x)
value_cmp_antisymm (Int x) (Int y) = int_cmp_total.antisymm x y
value_cmp_antisymm (Int x) (Text y) = refl
value_cmp_antisymm (Int x) (Blob y) = refl
value_cmp_antisymm (Text x) (Int y) = refl
value_cmp_antisymm (Text x) (Text y) = nat_list_cmp_total.antisymm x y
value_cmp_antisymm (Text x) (Blob y) = refl
value_cmp_antisymm (Blob x) (Int y) = refl
value_cmp_antisymm (Blob x) (Text y) = refl
value_cmp_antisymm (Blob x) (Blob y) = nat_list_cmp_total.antisymm x y

value_cmp_trans : (x y z : Value) → value_cmp x y ≡ Less → value_cmp y z ≡ Less → value_cmp x z ≡ Less
value_cmp_trans (Int x) (Int y) (Int z) xy yz = int_cmp_total.trans x y z xy yz
value_cmp_trans (Int x) (Text y) (Int z) xy yz = cc
value_cmp_trans (Int x) (Blob y) (Int z) xy yz = cc
value_cmp_trans (Int x) y (Text z) xy yz = refl
value_cmp_trans (Int x) y (Blob z) xy yz = refl
value_cmp_trans (Text x) (Int y) z xy yz = cc
value_cmp_trans (Text x) (Text y) (Int z) xy yz = cc
value_cmp_trans (Text x) (Text y) (Text z) xy yz = nat_list_cmp_total.trans x y z xy yz
value_cmp_trans (Text x) (Text y) (Blob z) xy yz = refl
value_cmp_trans (Text x) (Blob y) (Int z) xy yz = cc
value_cmp_trans (Text x) (Blob y) (Text z) xy yz = cc
value_cmp_trans (Text x) (Blob y) (Blob z) xy yz = refl
value_cmp_trans (Blob x) (Int y) z xy yz = cc
value_cmp_trans (Blob x) (Text y) z xy yz = cc
value_cmp_trans (Blob x) (Blob y) (Int z) xy yz = cc
value_cmp_trans (Blob x) (Blob y) (Text z) xy yz = cc
value_cmp_trans (Blob x) (Blob y) (Blob z) xy yz = nat_list_cmp_total.trans x y z xy yz

-- values are in a total order, in which equals are the same
pub value_cmp_total : IsTotalOrder value_cmp
value_cmp_total = record { antisymm = value_cmp_antisymm; trans = value_cmp_trans; congr = λ x y z same. ap (λ (v : Value). value_cmp v z) (value_cmp_exact x y same) }

-- and so are keys
pub key_cmp_total : IsTotalOrder key_cmp
key_cmp_total = lists_total value_cmp_total

key_cmp_exact_more : (x y : Value) (xs ys : List Value) (o : Ordering) → (key_cmp xs ys ≡ Equal → xs ≡ ys) → value_cmp x y ≡ o → ordering_then o (key_cmp xs ys) ≡ Equal → x ∷ xs ≡ y ∷ ys
key_cmp_exact_more x y xs ys Less rest is same = cc
key_cmp_exact_more x y xs ys Greater rest is same = cc
key_cmp_exact_more x y xs ys Equal rest is same = let first : x ≡ y = value_cmp_exact x y is in let others : xs ≡ ys = rest same in cc

pub key_cmp_exact : CmpEqualImpliesEq key_cmp
key_cmp_exact [] [] same = refl
key_cmp_exact [] (y ∷ ys) same = cc
key_cmp_exact (x ∷ xs) [] same = cc
key_cmp_exact (x ∷ xs) (y ∷ ys) same = key_cmp_exact_more x y xs ys (value_cmp x y) (key_cmp_exact xs ys) refl same

-- a key that is not above another, and is another, is below it
key_below : (a b : List Value) → is_lt (key_cmp b a) ≡ false → a ≢ b → key_cmp a b ≡ Less
key_below a b not_above differ = go (key_cmp b a) refl not_above
  where
    go : (o : Ordering) → key_cmp b a ≡ o → is_lt o ≡ false → key_cmp a b ≡ Less
    go Less is below = cc
    go Equal is below = absurd (differ (sym (key_cmp_exact b a is)))
    go Greater is below = key_cmp_total.antisymm a b ∙ ap ordering_reverse is

key_never : (a b : List Value) → key_cmp a b ≡ Less → key_cmp b a ≡ Less → ⊥
key_never a b up down = let turned : key_cmp a b ≡ Greater = key_cmp_total.antisymm a b ∙ ap ordering_reverse down in cc

-- keys of which neither is above the other are one
pub even_keys : (a b : List Value) → IsTrue (is_le (key_cmp a b)) → IsTrue (is_le (key_cmp b a)) → a ≡ b
even_keys a b up down = go (key_cmp a b) refl up
  where
    go : (o : Ordering) → key_cmp a b ≡ o → IsTrue (is_le o) → a ≡ b
    go Equal is below = key_cmp_exact a b is
    go Greater is below = cc
    go Less is below =
        let turned : Greater ≡ key_cmp b a = ap ordering_reverse (sym is) ∙ sym (key_cmp_total.antisymm b a) in
        let both : IsTrue (is_le Greater) = subst (λ (o : Ordering). IsTrue (is_le o)) (sym turned) down in
        cc

row_below : (schema : SchemaShape) (down : Bool) (a b : List Value) → is_lt (row_cmp schema down b a) ≡ false → key_of schema a ≢ key_of schema b → row_cmp schema down a b ≡ Less
row_below schema false a b not_above differ = key_below (key_of schema a) (key_of schema b) not_above differ
row_below schema true a b not_above differ = key_below (key_of schema b) (key_of schema a) not_above (λ same. differ (sym same))

row_trans : (schema : SchemaShape) (down : Bool) (a b c : List Value) → row_cmp schema down a b ≡ Less → row_cmp schema down b c ≡ Less → row_cmp schema down a c ≡ Less
row_trans schema false a b c ab bc = key_cmp_total.trans (key_of schema a) (key_of schema b) (key_of schema c) ab bc
row_trans schema true a b c ab bc = key_cmp_total.trans (key_of schema c) (key_of schema b) (key_of schema a) bc ab

row_never : (schema : SchemaShape) (down : Bool) (a b : List Value) → row_cmp schema down a b ≡ Less → row_cmp schema down b a ≡ Less → ⊥
row_never schema false a b ab ba = key_never (key_of schema a) (key_of schema b) ab ba
row_never schema true a b ab ba = key_never (key_of schema b) (key_of schema a) ab ba

-- each is below all later ones
abbrev pub Rises : {X : Type 0} → (X → X → Ordering) → List X → Type 0
Rises below [] = ⊤
Rises below (x ∷ xs) = AllByRecursion (λ y. below x y ≡ Less) xs × Rises below xs

-- two lists that rise and have the same elements are one list
pub rising_once : {X : Type 0} (below : X → X → Ordering) → ((x y : X) → below x y ≡ Less → below y x ≡ Less → ⊥) → (xs ys : List X) → Rises below xs → Rises below ys
    → ((x : X) → Contains xs x → Contains ys x) → ((x : X) → Contains ys x → Contains xs x) → xs ≡ ys
rising_once below never [] [] up_x up_y into back = refl
rising_once below never [] (y ∷ ys) up_x up_y into back = absurd (nothing_in (back y (zero, omega arith, refl)))
  where
    nothing_in : Contains [] y → ⊥
    nothing_in among = omega arith
rising_once below never (x ∷ xs) [] up_x up_y into back = absurd (nothing_in (into x (zero, omega arith, refl)))
  where
    nothing_in : Contains [] x → ⊥
    nothing_in among = omega arith
rising_once {X} below never (x ∷ xs) (y ∷ ys) up_x up_y into back =
    let first = same_first in
    let rest = rising_once below never xs ys up_x.1 up_y.1
    (λ z among. later (x ∷ []) xs ys z (Contains-cons_cases y ys z (into z (Contains-append_right (x ∷ []) xs z among)))
    (λ same. never z z (subst (λ (w : X). below w z ≡ Less) (first ∙ same) (AllByRecursion-contains (λ w. below x w ≡ Less) xs z up_x.0 among))
    (subst (λ (w : X). below w z ≡ Less) (first ∙ same) (AllByRecursion-contains (λ w. below x w ≡ Less) xs z up_x.0 among))))
    (λ z among. later (y ∷ []) ys xs z (Contains-cons_cases x xs z (back z (Contains-append_right (y ∷ []) ys z among)))
    (λ same. never z z (subst (λ (w : X). below w z ≡ Less) (sym first ∙ same) (AllByRecursion-contains (λ w. below y w ≡ Less) ys z up_y.0 among))
    (subst (λ (w : X). below w z ≡ Less) (sym first ∙ same) (AllByRecursion-contains (λ w. below y w ≡ Less) ys z up_y.0 among)))) in
    cc
  where
    later : {P : Type 0} (front from to : List X) (z : X) → P ⊎ Contains to z → (P → ⊥) → Contains to z
    later front from to z (inl same) apart = absurd (apart same)
    later front from to z (inr among) apart = among

    same_first : x ≡ y
    same_first = elim (Contains-cons_cases y ys x (into x (zero, omega arith, refl))) [
      | inl same ↦ sym same
      | inr in_ys ↦ elim (Contains-cons_cases x xs y (back y (zero, omega arith, refl))) [
        | inl same ↦ same
        | inr in_xs ↦ absurd (never x y (AllByRecursion-contains (λ w. below x w ≡ Less) xs y up_x.0 in_xs) (AllByRecursion-contains (λ w. below y w ≡ Less) ys x up_y.0 in_ys))
      ]
    ]

abbrev weight : {P Q : Type 0} → P ⊎ Q → ℕ
weight (inl p) = 1
weight (inr q) = 0

weight-yes : {P : Type 0} (o : P ⊎ (P → ⊥)) → P → weight o ≡ 1
weight-yes (inl p) holds = refl
weight-yes (inr fails) holds = absurd (fails holds)

weight-no : {P : Type 0} (o : P ⊎ (P → ⊥)) → (P → ⊥) → weight o ≡ 0
weight-no (inl p) fails = absurd (fails p)
weight-no (inr q) fails = refl

-- 1 where the row has the key
abbrev pub has_key : SchemaShape → List Value → List Value → ℕ
has_key schema key row = weight (keys_decided (key_of schema row) key)

-- how many of the rows have the key
abbrev pub holders : SchemaShape → List Value → List (List Value) → ℕ
holders schema key xs = sum_by (has_key schema key) xs

pub holders-cons : (schema : SchemaShape) (key row : List Value) (xs : List (List Value)) → holders schema key (row ∷ xs) ≡ has_key schema key row + holders schema key xs
holders-cons schema key row xs = sum_by-cons (has_key schema key) row xs

pub has_key-yes : (schema : SchemaShape) (key row : List Value) → key_of schema row ≡ key → has_key schema key row ≡ 1
has_key-yes schema key row same = weight-yes (keys_decided (key_of schema row) key) same

pub has_key-no : (schema : SchemaShape) (key row : List Value) → key_of schema row ≢ key → has_key schema key row ≡ 0
has_key-no schema key row differ = weight-no (keys_decided (key_of schema row) key) differ

pub AllByRecursion-map : {X : Type 0} (P Q : X → Type 0) (xs : List X) → ((x : X) → P x → Q x) → AllByRecursion P xs → AllByRecursion Q xs
AllByRecursion-map P Q [] leads all = tt
AllByRecursion-map P Q (x ∷ xs) leads all = (leads x all.0, AllByRecursion-map P Q xs leads all.1)

IsSorted-rest : (below : List Value → List Value → Ordering) (x : List Value) (xs : List (List Value)) → IsSorted below (x ∷ xs) → IsSorted below xs
IsSorted-rest below x xs up k d low high =
    let place : suc k + 1 ≡ suc (k + 1) = omega arith in
    subst (λ (j : ℕ). is_lt (below (slice_index_or (x ∷ xs) j d) (slice_index_or (x ∷ xs) (suc k) d)) ≡ false) place (up (suc k) d (omega arith) (omega arith))

-- sorted rows of which no two have one key rise
pub Rises-sorted : (schema : SchemaShape) (down : Bool) (xs : List (List Value)) → IsSorted (row_cmp schema down) xs → ((key : List Value) → holders schema key xs ≤ 1) → Rises (row_cmp schema down) xs
Rises-sorted schema down [] up once = tt
Rises-sorted schema down (x ∷ []) up once = (tt, tt)
Rises-sorted schema down (x ∷ y ∷ ys) up once =
    let less : row_cmp schema down x y ≡ Less = row_below schema down x y (up 0 x (omega arith) (omega arith)) (twice x y ys once) in
    let rest = Rises-sorted schema down (y ∷ ys) (IsSorted-rest (row_cmp schema down) x (y ∷ ys) up) (λ key. omega (arith, once key, holders-cons schema key x (y ∷ ys))) in
    ((less, AllByRecursion-map (λ z. row_cmp schema down y z ≡ Less) (λ z. row_cmp schema down x z ≡ Less) ys (λ z after. row_trans schema down x y z less after) rest.0), rest)
  where
    twice : (a b : List Value) (bs : List (List Value)) → ((key : List Value) → holders schema key (a ∷ b ∷ bs) ≤ 1) → key_of schema a ≢ key_of schema b
    twice a b bs once same =
        omega (arith, once (key_of schema b), holders-cons schema (key_of schema b) a (b ∷ bs), holders-cons schema (key_of schema b) b bs, has_key-yes schema (key_of schema b) a same, has_key-yes schema (key_of schema b) b refl)

pub row_once : (schema : SchemaShape) (down : Bool) (xs ys : List (List Value)) → Rises (row_cmp schema down) xs → Rises (row_cmp schema down) ys
    → ((x : List Value) → Contains xs x → Contains ys x) → ((x : List Value) → Contains ys x → Contains xs x) → xs ≡ ys
row_once schema down = rising_once (row_cmp schema down) (row_never schema down)
