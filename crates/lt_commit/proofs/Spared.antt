-- Which files go, as a test and in words.
use Rattle.std.proofs.Common.{◌≡◌, ◌⊎◌, ◌↔◌, ℕ, zero, suc, Bool, true, false, not, ◌||◌, cond, nat_eq, List, [], ◌∷◌, ◌++◌, length, Option, Some, None, Contains, IsSome, refl, sym, ◌∙◌, ap, subst, inl, inr, ⊎_elim, arith, eqb-true, eq-eqb}
use Rattle.std.specs.List.{filter, list_any}
use Rattle.std.proofs.lemmas.Bool.{false_from_ne_true}
use Rattle.std.proofs.lemmas.List.Kept.{IsStrictlyIncreasing-filter}
use Rattle.std.specs.List.Sorted.{IsStrictlyIncreasing}
use Rattle.std.proofs.lemmas.List.Elements.{Contains-append_right}
use Rattle.lt_io.specs.Directory.{file_at}
use Rattle.lt_desc.specs.Shape.{StoneShape}
use Rattle.lt_desc.specs.Lawful.{lists_file}
use Rattle.lt_commit.specs.Anchored.{Anchored, IsNamed, Goes, CountsGone, names_file, is_spared}

left_true : (a b : Bool) → a ≡ true → (a || b) ≡ true
left_true true b e = refl
left_true false b e = absurd (let no : false ≡ true = e in cc)

or_false : (a : Bool) → (a || false) ≡ a
or_false true = refl
or_false false = refl

or_assoc : (a b d : Bool) → (a || (b || d)) ≡ ((a || b) || d)
or_assoc true b d = refl
or_assoc false b d = refl

right_true : (a b : Bool) → b ≡ true → (a || b) ≡ true
right_true true b e = refl
right_true false b e = e

module _ {X : Type 0} where
  first : (x : X) (xs : List X) → Contains (x ∷ xs) x
  first x xs = (0, omega arith, refl)

  later : (y : X) (xs : List X) (x : X) → Contains xs x → Contains (y ∷ xs) x
  later y xs x is = Contains-append_right (y ∷ []) xs x is

  first_or_later : (y : X) (xs : List X) (x : X) → Contains (y ∷ xs) x → (y ≡ x) ⊎ Contains xs x
  first_or_later y xs x (zero, within, e) = inl e
  first_or_later y xs x (suc k, within, e) = inr (k, omega arith, e)

  -- some element passes where the test of the list does
  passing : (p : X → Bool) (xs : List X) → list_any p xs ≡ true → (x : X) × Contains xs x × (p x ≡ true)
  passing p [] e = absurd (let no : false ≡ true = e in cc)
  passing p (y ∷ xs) e =
      elim (p y) as (λ b. p y ≡ b → (b || list_any p xs) ≡ true → (x : X) × Contains (y ∷ xs) x × (p x ≡ true)) [
        | true ↦ λ is or. (y, first y xs, is)
        | false ↦ λ is or. let more : (x : X) × Contains xs x × (p x ≡ true) = passing p xs or in (more.0, later y xs more.0 more.1, more.2)
      ] refl e

  passed : (p : X → Bool) (xs : List X) (x : X) → Contains xs x → p x ≡ true → list_any p xs ≡ true
  passed p [] x is e = absurd (omega (arith, is.1))
  passed p (y ∷ xs) x is e =
      ⊎_elim (λ same. left_true (p y) (list_any p xs) (ap p same ∙ e)) (λ more. right_true (p y) (list_any p xs) (passed p xs x more e)) (first_or_later y xs x is)

  pub any_push : (p : X → Bool) (xs : List X) (x : X) → list_any p (xs ++ x ∷ []) ≡ (list_any p xs || p x)
  any_push p [] x = or_false (p x)
  any_push p (y ∷ xs) x = ap (λ b. p y || b) (any_push p xs x) ∙ or_assoc (p y) (list_any p xs) (p x)

  -- what a filter keeps
  filtered : (p : X → Bool) (xs : List X) (x : X) → Contains (filter p xs) x → Contains xs x × (p x ≡ true)
  filtered p [] x is = absurd (omega (arith, is.1))
  filtered p (y ∷ xs) x is =
      elim (p y) as (λ b. p y ≡ b → Contains (cond b (y ∷ filter p xs) (filter p xs)) x → Contains (y ∷ xs) x × (p x ≡ true)) [
        | true ↦ λ e kept. ⊎_elim (λ same. let both : Contains (y ∷ xs) x × (p x ≡ true) = (subst (Contains (y ∷ xs)) same (first y xs), ap p (sym same) ∙ e) in both)
            (λ more. let rest : Contains xs x × (p x ≡ true) = filtered p xs x more in (later y xs x rest.0, rest.1)) (first_or_later y (filter p xs) x kept)
        | false ↦ λ e kept. let rest : Contains xs x × (p x ≡ true) = filtered p xs x kept in (later y xs x rest.0, rest.1)
      ] refl is

  keeps : (p : X → Bool) (xs : List X) (x : X) → Contains xs x → p x ≡ true → Contains (filter p xs) x
  keeps p [] x is e = absurd (omega (arith, is.1))
  keeps p (y ∷ xs) x is e =
      elim (p y) as (λ b. p y ≡ b → Contains (cond b (y ∷ filter p xs) (filter p xs)) x) [
        | true ↦ λ passes. ⊎_elim (λ same. subst (Contains (y ∷ filter p xs)) same (first y (filter p xs))) (λ more. later y (filter p xs) x (keeps p xs x more e)) (first_or_later y xs x is)
        | false ↦ λ fails. ⊎_elim (λ same. absurd (let no : false ≡ true = sym fails ∙ ap p same ∙ e in cc)) (λ more. keeps p xs x more e) (first_or_later y xs x is)
      ] refl

-- ---- one file

named : (file : ℕ) (stone : Option StoneShape) → names_file file stone ≡ true → (s : StoneShape) × (stone ≡ Some s) × (lists_file s.tablets file ≡ true)
named file None e = absurd (let no : false ≡ true = e in cc)
named file (Some s) e = (s, refl, e)

is_named : (may : List (Option StoneShape)) (file : ℕ) → list_any (names_file file) may ≡ true → IsNamed may file
is_named may file e =
    let found : (stone : Option StoneShape) × Contains may stone × (names_file file stone ≡ true) = passing (names_file file) may e in
    let stone : (s : StoneShape) × (found.0 ≡ Some s) × (lists_file s.tablets file ≡ true) = named file found.0 found.2 in
    record { stone = stone.0; possible = subst (Contains may) stone.1 found.1; listed = stone.2 }

test_named : (may : List (Option StoneShape)) (file : ℕ) → IsNamed may file → list_any (names_file file) may ≡ true
test_named may file named = passed (names_file file) may (Some named.stone) named.possible named.listed

is_busy : (busy : List ℕ) (file : ℕ) → list_any (λ number. nat_eq number file) busy ≡ true → Contains busy file
is_busy busy file e =
    let found : (number : ℕ) × Contains busy number × (nat_eq number file ≡ true) = passing (λ number. nat_eq number file) busy e in
    subst (Contains busy) (eqb-true found.0 file found.2) found.1

test_busy : (busy : List ℕ) (file : ℕ) → Contains busy file → list_any (λ number. nat_eq number file) busy ≡ true
test_busy busy file is = passed (λ number. nat_eq number file) busy file is (eq-eqb file file refl)

true_is_false : (A : Type 0) → true ≡ false → A
true_is_false A e = cc

neither : (a b : Bool) → not (a || b) ≡ true → (a ≡ false) × (b ≡ false)
neither true b e = absurd (let no : false ≡ true = e in cc)
neither false true e = absurd (let no : false ≡ true = e in cc)
neither false false e = (refl, refl)

both_false : (a b : Bool) → (a ≡ true → ⊥) → (b ≡ true → ⊥) → not (a || b) ≡ true
both_false a b neither also = rw (false_from_ne_true a neither) (rw (false_from_ne_true b also) refl)

pub goes_iff : (anchor : Anchored) (busy files gone : List ℕ) → ((file : ℕ) → Contains files file ↔ IsSome (file_at anchor.directory.seen.files file))
    → gone ≡ filter (λ file. not (is_spared anchor.may busy file)) files → (file : ℕ) → Contains gone file ↔ Goes anchor busy file
goes_iff anchor busy files gone listed is file = (
  λ goes.
      let kept : Contains files file × (not (is_spared anchor.may busy file) ≡ true) = filtered (λ f. not (is_spared anchor.may busy f)) files file (subst (λ l. Contains l file) is goes) in
      let tests : (list_any (names_file file) anchor.may ≡ false) × (list_any (λ number. nat_eq number file) busy ≡ false) = neither _ _ kept.1 in
      record {
        there = (listed file).0 kept.0;
        unnamed = λ named. true_is_false ⊥ (sym (test_named anchor.may file named) ∙ tests.0);
        free = λ held. true_is_false ⊥ (sym (test_busy busy file held) ∙ tests.1);
      },
  λ goes. subst (λ l. Contains l file) (sym is) (keeps (λ f. not (is_spared anchor.may busy f)) files file ((listed file).1 goes.there)
      (both_false _ _ (λ e. goes.unnamed (is_named anchor.may file e)) (λ e. goes.free (is_busy busy file e)))),
)

pub going : (held anchor : Anchored) (busy files shown gone : List ℕ) (may : List (Option StoneShape)) → held ≡ anchor → may ≡ held.may → shown ≡ files
    → ((file : ℕ) → Contains files file ↔ IsSome (file_at held.directory.seen.files file)) → gone ≡ filter (λ file. not (is_spared may busy file)) shown
    → (file : ℕ) → Contains gone file ↔ Goes anchor busy file
going held anchor busy files shown gone may same may_is shown_is listed is =
    subst (λ a. (file : ℕ) → Contains gone file ↔ Goes a busy file) same
    (goes_iff held busy files gone listed (is ∙ (λ i. filter (λ file. not (is_spared (may_is i) busy file)) (shown_is i))))

pub counted : (anchor : Anchored) (busy files shown gone : List ℕ) (test : ℕ → Bool) (count : ℕ) → ((file : ℕ) → Contains gone file ↔ Goes anchor busy file) → IsStrictlyIncreasing files → shown ≡ files → gone ≡ filter test shown → count ≡ length gone
    → CountsGone anchor busy count
counted anchor busy files shown gone test count each rising shown_is is count_is = record {
  gone = gone;
  rising = subst IsStrictlyIncreasing (sym is) (IsStrictlyIncreasing-filter test shown (subst IsStrictlyIncreasing (sym shown_is) rising));
  each = each;
  count_is = count_is;
}
