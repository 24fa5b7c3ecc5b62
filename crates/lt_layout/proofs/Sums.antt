-- Records lie within their totals, and the order of keys over a run of records.
use Rattle.std.proofs.Common.{◌≡◌, ◌⊎◌, ℕ, ◌<◌, ◌≤◌, Bool, true, false, leb, List, [], ◌∷◌, ◌++◌, Ordering, Less, Equal, Greater, refl, sym, ap, ◌∙◌, arith, inl, inr}
use Rattle.std.specs.Prelude.{fold, min, max}
use Rattle.std.specs.List.{AllByRecursion}
use Rattle.std.specs.Ordering.{is_lt, nat_cmp, ordering_reverse}
use Rattle.std.specs.Cmp.Lexicographic.{slice_cmp, nat_list_cmp_total}
use Rattle.std.proofs.lemmas.Bool.{le-leb, and_from}
use Rattle.lt_rec.specs.Bytes.{is_less}
use Rattle.lt_rec.specs.Record.{Record, IsRecord}
use Rattle.lt_rec.specs.Records.{joined}
use Rattle.lt_block.specs.Spelling.{Rises, last_key, IsBlock}
use Rattle.lt_layout.specs.Spelling.{Totals, least, greatest, totals_of}
use Rattle.lt_rec.specs.Reading.{is_within}

-- ---- what holds of all of a list

pub all_split : (P : Record → Type 0) (xs ys : List Record) → AllByRecursion P (xs ++ ys) → AllByRecursion P xs × AllByRecursion P ys
all_split P [] ys h = (tt, h)
all_split P (x ∷ xs) ys h = let rest = all_split P xs ys h.1 in ((h.0, rest.0), rest.1)

pub all_join : (P : Record → Type 0) (xs ys : List Record) → AllByRecursion P xs → AllByRecursion P ys → AllByRecursion P (xs ++ ys)
all_join P [] ys h k = k
all_join P (x ∷ xs) ys h k = (h.0, all_join P xs ys h.1 k)

pub all_lawful : (blocks : List (List Record)) → AllByRecursion IsBlock blocks → AllByRecursion IsRecord (joined blocks)
all_lawful [] h = tt
all_lawful (recs ∷ blocks) h = all_join IsRecord recs (joined blocks) h.0.lawful (all_lawful blocks h.1)

-- ---- least and greatest

down : (f : Record → ℕ) (a : ℕ) (xs : List Record) → (fold (λ n x. min n (f x)) a xs ≤ a) × AllByRecursion (λ r. fold (λ n x. min n (f x)) a xs ≤ f r) xs
down f a [] = (omega arith, tt)
down f a (x ∷ xs) =
    let rest = down f (min a (f x)) xs in
    (omega (arith, rest.0), (omega (arith, rest.0), rest.1))

up : (f : Record → ℕ) (a : ℕ) (xs : List Record) → (a ≤ fold (λ n x. max n (f x)) a xs) × AllByRecursion (λ r. f r ≤ fold (λ n x. max n (f x)) a xs) xs
up f a [] = (omega arith, tt)
up f a (x ∷ xs) =
    let rest = up f (max a (f x)) xs in
    (omega (arith, rest.0), (omega (arith, rest.0), rest.1))

pub least_low : (f : Record → ℕ) (xs : List Record) → AllByRecursion (λ r. least f xs ≤ f r) xs
least_low f [] = tt
least_low f (x ∷ xs) = down f (f x) xs

pub greatest_high : (f : Record → ℕ) (xs : List Record) → AllByRecursion (λ r. f r ≤ greatest f xs) xs
greatest_high f [] = tt
greatest_high f (x ∷ xs) = up f (f x) xs

stays : (f : Record → ℕ) (limit a : ℕ) (xs : List Record) → a < limit → AllByRecursion (λ r. f r < limit) xs → fold (λ n x. max n (f x)) a xs < limit
stays f limit a [] lt h = lt
stays f limit a (x ∷ xs) lt h = stays f limit (max a (f x)) xs (omega (arith, lt, h.0)) h.1

pub greatest_below : (f : Record → ℕ) (limit : ℕ) (xs : List Record) → 0 < limit → AllByRecursion (λ r. f r < limit) xs → greatest f xs < limit
greatest_below f limit [] some h = some
greatest_below f limit (x ∷ xs) some h = stays f limit (f x) xs h.0 h.1

pub least_below : (f : Record → ℕ) (limit : ℕ) (xs : List Record) → 0 < limit → AllByRecursion (λ r. f r < limit) xs → least f xs < limit
least_below f limit [] some h = some
least_below f limit (x ∷ xs) some h = let d = down f (f x) xs in omega (arith, d.0, h.0)

-- the record lies within the totals
pub record Within (t : Totals) (r : Record) : Type 0 where
  pub timed : is_within t.low t.high r.ts ≡ true
  pub numbered : is_within t.first t.last r.seq ≡ true

within_from : (t : Totals) (xs : List Record) → AllByRecursion (λ r. t.low ≤ r.ts) xs → AllByRecursion (λ r. r.ts ≤ t.high) xs → AllByRecursion (λ r. t.first ≤ r.seq) xs → AllByRecursion (λ r. r.seq ≤ t.last) xs → AllByRecursion (Within t) xs
within_from t [] a b c d = tt
within_from t (r ∷ xs) a b c d = (
  record { timed = and_from (leb t.low r.ts) (leb r.ts t.high) (le-leb _ _ a.0) (le-leb _ _ b.0); numbered = and_from (leb t.first r.seq) (leb r.seq t.last) (le-leb _ _ c.0) (le-leb _ _ d.0) },
  within_from t xs a.1 b.1 c.1 d.1,
)

pub all_within : (recs : List Record) → AllByRecursion (Within (totals_of recs)) recs
all_within recs = within_from (totals_of recs) recs (least_low (λ r. r.ts) recs) (greatest_high (λ r. r.ts) recs) (least_low (λ r. r.seq) recs) (greatest_high (λ r. r.seq) recs)

pub all_of : (P Q : Record → Type 0) → ((r : Record) → P r → Q r) → (xs : List Record) → AllByRecursion P xs → AllByRecursion Q xs
all_of P Q f [] h = tt
all_of P Q f (x ∷ xs) h = (f x h.0, all_of P Q f xs h.1)

-- ---- the order of keys

less_is : (a b : List ℕ) → is_less a b ≡ true → slice_cmp nat_cmp a b ≡ Less
less_is a b h = footer_numbers (slice_cmp nat_cmp a b) h
  where
    footer_numbers : (o : Ordering) → is_lt o ≡ true → o ≡ Less
    footer_numbers Less h = refl
    footer_numbers Equal h = absurd cc
    footer_numbers Greater h = absurd cc

pub less_trans : (a b c : List ℕ) → is_less a b ≡ true → is_less b c ≡ true → is_less a c ≡ true
less_trans a b c h k = ap is_lt (nat_list_cmp_total.trans a b c (less_is a b h) (less_is b c k))

pub less_not : (a b : List ℕ) → is_less a b ≡ true → is_less b a ≡ false
less_not a b h = ap is_lt (nat_list_cmp_total.antisymm b a ∙ ap ordering_reverse (less_is a b h))

pub not_less_self : (a : List ℕ) → is_less a a ≡ false
not_less_self a = footer_numbers (is_less a a) refl
  where
    footer_numbers : (t : Bool) → is_less a a ≡ t → t ≡ false
    footer_numbers false h = refl
    footer_numbers true h = sym h ∙ less_not a a h

pub last_not_below : (key : List ℕ) (recs : List Record) → Rises key recs → is_less (last_key key recs) key ≡ false
last_not_below key recs rising =
    elim (rising_or_same key recs rising) [
      | inl same ↦ ap (λ (k : List ℕ). is_less k key) same ∙ not_less_self key
      | inr less ↦ less_not key (last_key key recs) less
    ]
  where
    rising_or_same : (k : List ℕ) (xs : List Record) → Rises k xs → (last_key k xs ≡ k) ⊎ (is_less k (last_key k xs) ≡ true)
    rising_or_same k [] h = inl refl
    rising_or_same k (x ∷ xs) h =
        elim (rising_or_same x.key xs h.1) [
          | inl same ↦ inr (ap (is_less k) same ∙ h.0)
          | inr less ↦ inr (less_trans k x.key (last_key x.key xs) h.0 less)
        ]

pub rises_join : (last : List ℕ) (xs ys : List Record) → Rises last xs → Rises (last_key last xs) ys → Rises last (xs ++ ys)
rises_join last [] ys h k = k
rises_join last (x ∷ xs) ys h k = (h.0, rises_join x.key xs ys h.1 k)

pub rises_split : (last : List ℕ) (xs ys : List Record) → Rises last (xs ++ ys) → Rises last xs × Rises (last_key last xs) ys
rises_split last [] ys h = (tt, h)
rises_split last (x ∷ xs) ys h = let rest = rises_split x.key xs ys h.1 in ((h.0, rest.0), rest.1)
