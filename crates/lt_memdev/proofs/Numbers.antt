-- Files by their numbers.
use Rattle.std.proofs.Common.{◌≡◌, ◌≤◌, ◌<◌, ◌+◌, ℕ, max, Bool, true, false, cond, nat_eq, List, [], ◌∷◌, Option, Some, None, IsSome, All, refl, sym, ◌∙◌, subst, arith, eq-eqb, eqb-true}
use Rattle.std.specs.Cmp.{unsigned_tied}
use Rattle.std.proofs.lemmas.Cmp.{nat_eq_equiv}
use Rattle.std.proofs.lemmas.Map.Keys.{ge_from_not_lt}
use Rattle.std.proofs.lemmas.Map.Views.{Contains-from_lookup}
use Rattle.std.proofs.lemmas.List.Elements.{All-contains}
use Rattle.std.specs.Ordering.{nat_cmp, is_eq, is_lt}
use Rattle.std.specs.Map.{lookup}
use Rattle.lt_io.specs.Directory.{Contents, file_at}
use Rattle.lt_memdev.specs.Files.{above, Puts}

number_eq : (a b : ℕ) → is_eq (nat_cmp a b) ≡ nat_eq b a
number_eq a b = unsigned_tied a b ∙ nat_eq_equiv.symm a b

-- a file by its number, as the map finds it
pub found : (number : ℕ) (files : Contents) → lookup (λ k. is_eq (nat_cmp number k)) files ≡ file_at files number
found number [] = refl
found number (file ∷ files) = λ i. cond (unsigned_tied number file.0 i) (Some file.1) (found number files i)

-- what the map's change says of each file
pub puts : (number : ℕ) (here : Option (List ℕ)) (old new : Contents) → ((other : ℕ) → lookup (λ k. is_eq (nat_cmp other k)) new ≡ cond (is_eq (nat_cmp number other)) here (lookup (λ k. is_eq (nat_cmp other k)) old)) → Puts old new number here
puts number here old new updates other = sym (found other new) ∙ updates other ∙ (λ i. cond (number_eq number other i) here (found other old i))

behind : (b : Bool) (here : List ℕ) (o : Option (List ℕ)) → IsSome o → IsSome (cond b (Some here) o)
behind true here o there = refl
behind false here o there = there

-- each number is below the one above all
pub above_each : (files : Contents) (number : ℕ) → IsSome (file_at files number) → number < above files
above_each [] number there = absurd (let no : false ≡ true = there in cc)
above_each (file ∷ files) number there =
    elim (nat_eq number file.0) as (λ b. nat_eq number file.0 ≡ b → IsSome (cond b (Some file.1) (file_at files number)) → number < max (file.0 + 1) (above files)) [
      | true ↦ λ e here. omega (arith, eqb-true number file.0 e)
      | false ↦ λ e rest. omega (arith, above_each files number rest)
    ] refl there

-- and it is the least such
pub above_least : (files : Contents) (bound : ℕ) → ((number : ℕ) → IsSome (file_at files number) → number < bound) → above files ≤ bound
above_least [] bound each = omega arith
above_least (file ∷ files) bound each =
    omega (
      arith,
      each file.0 (subst (λ b. IsSome (cond b (Some file.1) (file_at files file.0))) (sym (eq-eqb file.0 file.0 refl)) refl),
      above_least files bound (λ number there. each number (behind (nat_eq number file.0) file.1 (file_at files number) there)),
    )

-- the last number of a map
pub above_last : (files : Contents) (last : ℕ) (bytes : List ℕ) → lookup (λ k. is_eq (nat_cmp last k)) files ≡ Some bytes → ((other : ℕ) → IsSome (lookup (λ k. is_eq (nat_cmp other k)) files) → is_lt (nat_cmp last other) ≡ false) → last + 1 ≡ above files
above_last files last bytes here greatest =
    let there : IsSome (file_at files last) = subst IsSome (sym (sym (found last files) ∙ here)) refl in
    omega (
      arith,
      above_each files last there,
      above_least files (last + 1) (λ other other_there. let up_to : other ≤ last = ge_from_not_lt last other (greatest other (subst IsSome (sym (found other files)) other_there)) in omega arith),
    )

-- from the one above all on there is no file
pub none_above : (files : Contents) (number : ℕ) → above files ≤ number → file_at files number ≡ None
none_above files number past =
    elim (file_at files number) as (λ o. file_at files number ≡ o → o ≡ None) [
      | None ↦ λ e. refl
      | (Some bytes) ↦ λ e. absurd (let within : number < above files = above_each files number (subst IsSome (sym e) refl) in omega arith)
    ] refl

pub in_range : (files held : Contents) (bound : ℕ) → All (λ file. file.0 < bound) files → ((number : ℕ) → file_at held number ≡ file_at files number) → (number : ℕ) → IsSome (file_at held number) → number < bound
in_range files held bound each same number there =
    elim (file_at files number) as (λ o. file_at files number ≡ o → IsSome o → number < bound) [
      | None ↦ λ e no. absurd (let false_is : false ≡ true = no in cc)
      | (Some bytes) ↦ λ e yes. All-contains (λ file. file.0 < bound) files (number, bytes) each (Contains-from_lookup eqb-true number bytes files e)
    ] refl (subst IsSome (same number) there)
