-- A name that a stopped run leaves is none of an entered file.
use Rattle.std.proofs.Common.{arith, ◌≡◌, ◌<◌, ◌^◌, ◌∷◌, ℕ, List, true, decimal, IfSome, sym, subst, ◌∙◌}
use Rattle.std.proofs.lemmas.Fmt.{decimal_is_IsNumeral}
use Rattle.std.specs.Str.Parse.{IsNumeral}
use Rattle.std.specs.Prelude.{Option, Some, None, is_some}
use Rattle.lt_filedev.specs.Names.{name_text, IsLeftOver, begun, next}
use Rattle.lt_filedev.specs.declared.names.Name.TheVariants.{File, Unentered}

-- a number doesn't begin with a letter
begins_with_v : (rest : List ℕ) (number : ℕ) → number < 2 ^ 62 → 118 ∷ rest ≡ decimal number → ⊥
begins_with_v rest number small is =
    let digits = decimal_is_IsNumeral number (omega (arith, small)) in
    let all = subst (λ text. IsNumeral 10 text) (sym is) digits.0 in
    omega (arith, all.1.0)

pub no_file : {name : List ℕ} → IsLeftOver name → (number : ℕ) → number < 2 ^ 62 → name ≡ name_text (File number) → ⊥
no_file (begun _ says) number small is = begins_with_v _ number small (sym says ∙ is)
no_file (next says) number small is = begins_with_v _ number small (sym says ∙ is)

pub is_begun : {name : List ℕ} (found : Option ℕ) → IfSome found (λ number. name ≡ name_text (Unentered number)) → is_some found ≡ true → IsLeftOver name
is_begun (Some number) says some = begun number says
is_begun None says some = absurd (cc some)
