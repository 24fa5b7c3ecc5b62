-- There is a verdict on each row, and in a legal history one alone.
use Rattle.std.proofs.Common.{◌≡◌, ◌≢◌, ◌⊎◌, inl, inr, ℕ, zero, suc, ◌^◌, List, [], ◌∷◌, Option, refl, sym, subst, ◌∙◌, arith}
use Rattle.std.specs.Prelude.{Some, None, Contains}
use Rattle.std.specs.List.{AllByRecursion}
use Rattle.std.proofs.lemmas.Bool.{cases_lt}
use Rattle.std.proofs.lemmas.List.Elements.{Contains-append_right}
use Rattle.std.proofs.Math.Decide.{ℕ_discrete}
use Rattle.std.proofs.Math.IntN.{ℤ_discrete}
use Rattle.lt_schema.specs.declared.row.RowFault.{RowFault}
use Rattle.lt_schema.specs.declared.value.Value.{Value}
use Rattle.lt_schema.specs.declared.value.Value.TheVariants.{Int, Text, Blob}
use Rattle.lt_schema.specs.Shapes.{SchemaShape}
use Rattle.lt_schema.specs.Versions.{newest}
use Rattle.lt_schema.specs.Check.{Passes, row_fault, key_of, time_of}
use Rattle.lt_model.specs.History.{Numbered, History}
use Rattle.lt_model.specs.Readings.{rows, next, schemas, since}
use Rattle.lt_model.specs.Legal.{KeysDiffer, IsLegal}
use Rattle.lt_model.specs.Verdict.{Verdict, bad_row, too_old, present, spent, accepted, HasKey, IsTimely, IsVerdict}

lists_decided : {X : Type 0} → ((a b : X) → (a ≡ b) ⊎ (a ≢ b)) → (xs ys : List X) → (xs ≡ ys) ⊎ (xs ≢ ys)
lists_decided decided [] [] = inl refl
lists_decided decided [] (y ∷ ys) = inr (λ same. cc)
lists_decided decided (x ∷ xs) [] = inr (λ same. cc)
lists_decided decided (x ∷ xs) (y ∷ ys) = elim (decided x y) [
  | inr differ ↦ inr (λ same. differ (cc))
  | inl first ↦ elim (lists_decided decided xs ys) [
    | inr differ ↦ inr (λ same. differ (cc))
    | inl rest ↦ inl (cc)
  ]
]

naturals_decided : (a b : ℕ) → (a ≡ b) ⊎ (a ≢ b)
naturals_decided a b = elim (ℕ_discrete a b) [ yes same ↦ inl same | no differ ↦ inr differ ]

bytes_decided : (xs ys : List ℕ) → (xs ≡ ys) ⊎ (xs ≢ ys)
bytes_decided = lists_decided naturals_decided

values_decided : (a b : Value) → (a ≡ b) ⊎ (a ≢ b)
values_decided (Int x) (Int y) = elim (ℤ_discrete x y) [ yes same ↦ inl (cc) | no differ ↦ inr (λ same. differ (cc)) ]
values_decided (Text x) (Text y) = elim (bytes_decided x y) [ inl same ↦ inl (cc) | inr differ ↦ inr (λ same. differ (cc)) ]
values_decided (Blob x) (Blob y) = elim (bytes_decided x y) [ inl same ↦ inl (cc) | inr differ ↦ inr (λ same. differ (cc)) ]
values_decided (Int x) (Text y) = inr (λ same. cc)
values_decided (Int x) (Blob y) = inr (λ same. cc)
values_decided (Text x) (Int y) = inr (λ same. cc)
values_decided (Text x) (Blob y) = inr (λ same. cc)
values_decided (Blob x) (Int y) = inr (λ same. cc)
values_decided (Blob x) (Text y) = inr (λ same. cc)

-- keys are the same, or they are not
pub keys_decided : (a b : List Value) → (a ≡ b) ⊎ (a ≢ b)
keys_decided = lists_decided values_decided

-- a row among these with this key
record Holder (schema : SchemaShape) (xs : List Numbered) (key : List Value) : Type 0 where
  found : Numbered
  among : Contains xs found
  same_key : key_of schema found.row ≡ key

abbrev IsFresh : SchemaShape → List Numbered → List Value → Type 0
IsFresh schema xs key = (other : Numbered) → Contains xs other → key_of schema other.row ≢ key

-- an element is the first or one of the rest
pub Contains-cons_cases : {X : Type 0} (first : X) (xs : List X) (x : X) → Contains (first ∷ xs) x → (first ≡ x) ⊎ Contains xs x
Contains-cons_cases first xs x (zero, below, at) = inl at
Contains-cons_cases first xs x (suc k, below, at) = inr (k, omega arith, at)

Holder-rest : (schema : SchemaShape) (first : Numbered) (xs : List Numbered) (key : List Value) → Holder schema xs key → Holder schema (first ∷ xs) key
Holder-rest schema first xs key holder = record { found = holder.found; among = Contains-append_right (first ∷ []) xs holder.found holder.among; same_key = holder.same_key }

IsFresh-cons : (schema : SchemaShape) (first : Numbered) (xs : List Numbered) (key : List Value) → key_of schema first.row ≢ key → IsFresh schema xs key → IsFresh schema (first ∷ xs) key
IsFresh-cons schema first xs key differ fresh other among = elim (Contains-cons_cases first xs other among) [
  | inl same ↦ subst (λ (n : Numbered). key_of schema n.row ≢ key) same differ
  | inr later ↦ fresh other later
]

holders_decided : (schema : SchemaShape) (xs : List Numbered) (key : List Value) → Holder schema xs key ⊎ IsFresh schema xs key
holders_decided schema [] key = inr (λ other among. absurd (omega arith))
holders_decided schema (first ∷ xs) key = elim (keys_decided (key_of schema first.row) key) [
  | inl same ↦ inl (record { found = first; among = (zero, omega arith, refl); same_key = same })
  | inr differ ↦ elim (holders_decided schema xs key) [
    | inl holder ↦ inl (Holder-rest schema first xs key holder)
    | inr fresh ↦ inr (IsFresh-cons schema first xs key differ fresh)
  ]
]

verdict_of_timely : (h : History) (row : List Value) (now : ℕ) → IsTimely h row now → (verdict : Verdict) × IsVerdict h row now verdict
verdict_of_timely h row now timely = elim (holders_decided h.opening.schemas.first (rows h) (key_of h.opening.schemas.first row)) [
  | inl holder ↦ (present holder.found.seq, (timely, record { found = holder.found; among = holder.among; same_key = holder.same_key; number = refl }))
  | inr fresh ↦ elim (cases_lt (next h) (2 ^ 62)) [
    | inl room ↦ (accepted, (timely, fresh, room))
    | inr full ↦ (spent, (timely, fresh, full))
  ]
]

verdict_of_passing : (h : History) (row : List Value) (now : ℕ) → Passes (newest (schemas h)) row → (verdict : Verdict) × IsVerdict h row now verdict
verdict_of_passing h row now passes = elim (cases_lt (time_of h.opening.schemas.first row) (since h now)) [
  | inl early ↦ (too_old (since h now), (passes, refl, early))
  | inr late ↦ verdict_of_timely h row now (record { passes = passes; unexpired = late })
]

verdict_by_fault : (h : History) (row : List Value) (now : ℕ) (fault : Option RowFault) → row_fault (newest (schemas h)) row ≡ fault → (verdict : Verdict) × IsVerdict h row now verdict
verdict_by_fault h row now None is = verdict_of_passing h row now is
verdict_by_fault h row now (Some fault) is = (bad_row fault, is)

-- there is one
pub some_verdict : (h : History) (row : List Value) (now : ℕ) → (verdict : Verdict) × IsVerdict h row now verdict
some_verdict h row now = verdict_by_fault h row now (row_fault (newest (schemas h)) row) refl

pub AllByRecursion-contains : {X : Type 0} (P : X → Type 0) (xs : List X) (x : X) → AllByRecursion P xs → Contains xs x → P x
AllByRecursion-contains P [] x all among = absurd (omega arith)
AllByRecursion-contains P (first ∷ xs) x all among = elim (Contains-cons_cases first xs x among) [
  | inl same ↦ subst P same all.0
  | inr later ↦ AllByRecursion-contains P xs x all.1 later
]

-- where keys differ, one row alone has a key
pub one_holder : (schema : SchemaShape) (xs : List Numbered) (a b : Numbered) → KeysDiffer schema xs → Contains xs a → Contains xs b
    → key_of schema a.row ≡ key_of schema b.row → a ≡ b
one_holder schema [] a b differ in_a in_b same = absurd (omega arith)
one_holder schema (first ∷ xs) a b differ in_a in_b same = elim (Contains-cons_cases first xs a in_a) [
  | inl first_a ↦ elim (Contains-cons_cases first xs b in_b) [
    | inl first_b ↦ cc
    | inr later_b ↦ absurd (AllByRecursion-contains (λ other. key_of schema first.row ≢ key_of schema other.row) xs b differ.0 later_b (rw first_a same))
  ]
  | inr later_a ↦ elim (Contains-cons_cases first xs b in_b) [
    | inl first_b ↦ absurd (AllByRecursion-contains (λ other. key_of schema first.row ≢ key_of schema other.row) xs a differ.0 later_a (rw first_b (sym same)))
    | inr later_b ↦ one_holder schema xs a b differ.1 later_a later_b same
  ]
]

one_number : (h : History) (row : List Value) (m n : ℕ) → IsLegal h → HasKey h row m → HasKey h row n → present m ≡ present n
one_number h row m n legal a b =
    let same : a.found ≡ b.found = one_holder h.opening.schemas.first (rows h) a.found b.found legal.distinct a.among b.among (a.same_key ∙ sym b.same_key) in
    cc

-- in a legal history there is no other
pub one_verdict : (h : History) (row : List Value) (now : ℕ) (a b : Verdict) → IsLegal h → IsVerdict h row now a → IsVerdict h row now b → a ≡ b
one_verdict h row now (bad_row f) (bad_row g) legal v w = cc
one_verdict h row now (bad_row f) (too_old b) legal v w = cc
one_verdict h row now (bad_row f) (present n) legal v w = cc
one_verdict h row now (bad_row f) spent legal v w = cc
one_verdict h row now (bad_row f) accepted legal v w = cc
one_verdict h row now (too_old b) (bad_row g) legal v w = cc
one_verdict h row now (too_old b) (too_old c) legal v w = cc
one_verdict h row now (too_old b) (present n) legal v w = absurd (omega arith)
one_verdict h row now (too_old b) spent legal v w = absurd (omega arith)
one_verdict h row now (too_old b) accepted legal v w = absurd (omega arith)
one_verdict h row now (present m) (bad_row g) legal v w = cc
one_verdict h row now (present m) (too_old c) legal v w = absurd (omega arith)
one_verdict h row now (present m) (present n) legal v w = one_number h row m n legal v.1 w.1
one_verdict h row now (present m) spent legal v w = absurd (w.1 v.1.found v.1.among v.1.same_key)
one_verdict h row now (present m) accepted legal v w = absurd (w.1 v.1.found v.1.among v.1.same_key)
one_verdict h row now spent (bad_row g) legal v w = cc
one_verdict h row now spent (too_old c) legal v w = absurd (omega arith)
one_verdict h row now spent (present n) legal v w = absurd (v.1 w.1.found w.1.among w.1.same_key)
one_verdict h row now spent spent legal v w = refl
one_verdict h row now spent accepted legal v w = absurd (omega arith)
one_verdict h row now accepted (bad_row g) legal v w = cc
one_verdict h row now accepted (too_old c) legal v w = absurd (omega arith)
one_verdict h row now accepted (present n) legal v w = absurd (v.1 w.1.found w.1.among w.1.same_key)
one_verdict h row now accepted spent legal v w = absurd (omega arith)
one_verdict h row now accepted accepted legal v w = refl
