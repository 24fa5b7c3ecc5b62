-- A key that is sought in the files of listed tablets.
use Rattle.std.proofs.Common.{◌≡◌, ℕ, ◌+◌, ◌≤◌, ◌<◌, Bool, cond, List, [], ◌∷◌, ◌++◌, length, map, take, get_or, max, Contains, sym, ◌∙◌, ap, subst, inl, inr, ⊎_elim, arith}
use Rattle.std.specs.Prelude.{fold, count_by}
use Rattle.std.proofs.lemmas.Bool.{cases_Bool}
use Rattle.std.proofs.lemmas.List.{map_more, take_all}
use Rattle.std.proofs.lemmas.List.Elements.{Contains-push_cases}
use Rattle.std.proofs.lemmas.List.Sums.{count_by_more_yes, count_by_more_no, sum_by-take-le}
use Rattle.lt_rec.specs.Record.{Record}
use Rattle.lt_layout.specs.Spelling.{Totals, greatest}
use Rattle.lt_tablet.specs.Loaded.{Loaded, IsTold, records_in}
use Rattle.lt_model.proofs.Verdicts.{Contains-cons_cases}
use Rattle.lt_trace.proofs.Lists.{in_images}
use Rattle.lt_state.specs.State.{Sealed}
use Rattle.lt_probe.specs.Keys.{HasNumber}
use Rattle.lt_core.specs.Inserts.{IsListedIn, NoneListedFrom}

-- no record is numbered above the last number that the listing tells
fold_up : (f : Record → ℕ) (n : ℕ) (recs : List Record) → n ≤ fold (λ n x. max n (f x)) n recs
fold_up f n [] = omega arith
fold_up f n (x ∷ recs) = omega (arith, fold_up f (max n (f x)) recs)

fold_has : (f : Record → ℕ) (n : ℕ) (recs : List Record) (r : Record) → Contains recs r → f r ≤ fold (λ n x. max n (f x)) n recs
fold_has f n [] r among = absurd (omega (arith, among.1))
fold_has f n (x ∷ recs) r among = ⊎_elim
    (λ same. omega (arith, fold_up f (max n (f x)) recs, ap f same))
    (λ later. fold_has f (max n (f x)) recs r later)
    (Contains-cons_cases x recs r among)

greatest_has : (f : Record → ℕ) (recs : List Record) (r : Record) → Contains recs r → f r ≤ greatest f recs
greatest_has f [] r among = absurd (omega (arith, among.1))
greatest_has f (x ∷ recs) r among = ⊎_elim
    (λ same. omega (arith, fold_up f (f x) recs, ap f same))
    (λ later. fold_has f (f x) recs r later)
    (Contains-cons_cases x recs r among)

pub within_last : (t : Loaded) (r : Record) → IsTold t → Contains (records_in t) r → r.seq ≤ t.listed.last
within_last t r told among = omega (arith, greatest_has (λ (x : Record). x.seq) (records_in t) r among, ap (λ (x : Totals). x.last) told.totals)

-- one tablet more
pub none_more : {A : Type 0} (f : A → Sealed) (xs : List A) (i : ℕ) (x : A) (key : List ℕ) (clear : ℕ) → i < length xs → x ≡ get_or xs i x → NoneListedFrom (map f (take i xs)) key clear
    → ((rec : Record) → Contains (f x).recs rec → rec.key ≡ key → rec.seq < clear) → NoneListedFrom (map f (take (i + 1) xs)) key clear
none_more {A} f xs i x key clear within here none own t rec among in_recs is = ⊎_elim
    (λ was. none t rec was in_recs is)
    (λ same. own rec (subst (λ (s : Sealed). Contains s.recs rec) (sym same) in_recs) is)
    (Contains-push_cases (map f (take i xs)) (f x) t (subst (λ (l : List Sealed). Contains l t) (map_more f xs i x within ∙ ap (λ (y : A). map f (take i xs) ++ f y ∷ []) (sym here)) among))

pub none_at_all : {A : Type 0} (f : A → Sealed) (xs : List A) (i : ℕ) (key : List ℕ) (clear : ℕ) → length xs ≤ i → NoneListedFrom (map f (take i xs)) key clear → NoneListedFrom (map f xs) key clear
none_at_all {A} f xs i key clear past none = subst (λ (ys : List A). NoneListedFrom (map f ys) key clear) (take_all i xs past) none

pub listed_in : {A : Type 0} (f : A → Sealed) (xs : List A) (i : ℕ) (x : A) (key : List ℕ) (seq : ℕ) → i < length xs → x ≡ get_or xs i x → HasNumber (f x).recs key seq → IsListedIn (map f xs) key seq
listed_in f xs i x key seq within here has = record {
  tablet = f x;
  listed = in_images f xs x (i, within, sym here);
  rec = has.1;
  among = (has.0, has.2, has.3);
  key_is = has.4.1;
  number = has.4.0;
}

abbrev count_if : Bool → ℕ
count_if b = cond b 1 0

module _ {X : Type 0} (p : X → Bool) (xs : List X) (i : ℕ) (x : X) (within : i < length xs) (here : get_or xs i x ≡ x) (begin before after : ℕ) where
  -- the ticks of one tablet more
  pub ticks_more : before ≤ begin + count_by p (take i xs) → after ≤ before + cond (p x) 1 0 → after ≤ begin + count_by p (take (i + 1) xs)
  ticks_more h k = elim (cases_Bool (p x)) [
    | inl admits ↦
        let one = ap (λ b. count_if b) admits in
        omega (arith, h, k, one, count_by_more_yes p xs i x within (ap p here ∙ admits))
    | inr denies ↦
        let none = ap (λ b. count_if b) denies in
        omega (arith, h, k, none, count_by_more_no p xs i x within (ap p here ∙ denies))
  ]

  pub ticks_all : before ≤ begin + count_by p (take i xs) → after ≤ before + cond (p x) 1 0 → after ≤ begin + count_by p xs
  ticks_all h k = omega (arith, ticks_more h k, sum_by-take-le (λ y. cond (p y) 1 0) xs (i + 1))
