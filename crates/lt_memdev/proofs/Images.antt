-- The images that choices name.
use Rattle.std.proofs.Common.{◌≡◌, ◌≤◌, ◌<◌, ◌+◌, ◌^◌, ◌%◌, ℕ, zero, suc, List, [], ◌∷◌, length, slice_get, slice_index_or, Option, Some, None, IsSome, Contains, false, true, refl, sym, ◌∙◌, ap, subst, ⊎_elim, arith, length-append}
use Rattle.std.proofs.lemmas.Bool.{cases_lt}
use Rattle.std.proofs.Math.Nat.{mod-eq_of_lt}
use Rattle.std.proofs.lemmas.Option.{slice_get_within, get_or_from_slice_get, slice_get-get_or}
use Rattle.lt_io.specs.Directory.{State, Image, Directory, Contents, Fits, PossibleAt, file_at, states}
use Rattle.lt_io.proofs.Moments.{some_is}
use Rattle.lt_memdev.specs.History.{IsBelow, IsLawful, Shows}
use Rattle.lt_memdev.specs.Chosen.{IsChosen, ChosenAt, AlikeAt, IsSame, Fills, loose_bytes}
use Rattle.lt_memdev.specs.declared.image.Choice.{Choice}
use Rattle.lt_memdev.specs.declared.image.Loose.{Loose}

get_some : (list : List State) (at : ℕ) → at < length list → (state : State) × (slice_get list at ≡ Some state)
get_some [] at within = absurd (omega arith)
get_some (state ∷ list) zero within = (state, refl)
get_some (first ∷ list) (suc at) within = get_some list at (omega arith)

-- each moment has its state
pub stood_at : (directory : Directory) (at : ℕ) → at ≤ length directory.past → (state : State) × (slice_get (states directory) at ≡ Some state)
stood_at directory at within = get_some (states directory) at (omega (arith, length-append directory.past (directory.now ∷ [])))

none_from : (state : State) (number : ℕ) → IsBelow state → state.ceiling ≤ number → file_at state.files number ≡ None
none_from state number below above =
    elim (file_at state.files number) as (λ o. file_at state.files number ≡ o → o ≡ None) [
      | None ↦ λ e. refl
      | (Some bytes) ↦ λ e. absurd (let within : number < state.ceiling = below.each number bytes e in omega arith)
    ] refl

-- what the replay shows, filled and with a descriptor picked, is the image that is chosen
pub chosen_of : (state : State) (choice : Choice) (held files : Contents) (possible : List (Option (List ℕ))) (ceiling : ℕ) (descriptor : Option (List ℕ))
    → Shows held possible state → IsBelow state → ceiling ≡ state.ceiling → Fills held files ceiling (loose_bytes choice.loose) → slice_get possible (choice.which % length possible) ≡ Some descriptor
    → IsChosen state choice record { files = files; descriptor = descriptor }
chosen_of state choice held files possible ceiling descriptor shows below same fills picked = record {
  entered = λ number bytes e. fills.kept number bytes (shows.files number ∙ e);
  loose = λ number within e. fills.filled number (omega arith) (shows.files number ∙ e);
  absent = λ number above. fills.others number (omega arith) ∙ shows.files number ∙ none_from state number below above;
  descriptor = subst (λ may. slice_get may (choice.which % length may) ≡ Some descriptor) shows.may picked;
}

-- its files are below 2 ^ 62
pub files_in_range : (state : State) (held files : Contents) (possible : List (Option (List ℕ))) (ceiling : ℕ) (loose : Option (List ℕ)) → Shows held possible state → IsBelow state → ceiling ≡ state.ceiling → Fills held files ceiling loose
    → (number : ℕ) → IsSome (file_at files number) → number < 2 ^ 62
files_in_range state held files possible ceiling loose shows below same fills number there =
    ⊎_elim (λ within. let top : state.ceiling ≤ 2 ^ 62 = below.in_range in omega arith)
    (λ above.
    let none : file_at files number ≡ None = fills.others number (omega arith) ∙ shows.files number ∙ none_from state number below above in
    absurd (let no : false ≡ true = subst IsSome none there in cc))
    (cases_lt number state.ceiling)

-- a chosen image is possible
fits_chosen : (state : State) (choice : Choice) (image : Image) → IsChosen state choice image → Fits image state
fits_chosen state choice image chosen = record {
  entered = chosen.entered;
  absent = chosen.absent;
  descriptor = (
    choice.which % length state.may,
    slice_get_within state.may (choice.which % length state.may) image.descriptor chosen.descriptor,
    get_or_from_slice_get state.may (choice.which % length state.may) image.descriptor image.descriptor chosen.descriptor,
  );
}

-- a choice names one image
same_chosen : (state : State) (choice : Choice) (image other : Image) → IsChosen state choice image → IsChosen state choice other → IsSame other image
same_chosen state choice image other chosen again = record {
  descriptor = let same : Some other.descriptor ≡ Some image.descriptor = sym again.descriptor ∙ chosen.descriptor in cc;
  files = λ number.
      ⊎_elim
      (λ within. elim (file_at state.files number) as (λ o. file_at state.files number ≡ o → file_at other.files number ≡ file_at image.files number) [
        | None ↦ λ e. again.loose number within e ∙ sym (chosen.loose number within e)
        | (Some bytes) ↦ λ e. again.entered number bytes e ∙ sym (chosen.entered number bytes e)
      ] refl)
      (λ above. again.absent number above ∙ sym (chosen.absent number above))
      (cases_lt number state.ceiling);
}

named : (may : List (Option (List ℕ))) (which : ℕ) (descriptor : Option (List ℕ)) → which < length may → slice_index_or may which descriptor ≡ descriptor → slice_get may (which % length may) ≡ Some descriptor
named may which descriptor within is =
    ap (slice_get may) (mod-eq_of_lt within) ∙ slice_get-get_or may which descriptor within ∙ ap (λ d. Some d) is

-- each possible image with its loose files alike is named by a choice
pub choice_for : (directory : Directory) (at : ℕ) (other : Image) (loose : Loose) → ((state : State) → slice_get (states directory) at ≡ Some state → IsLawful at state)
    → PossibleAt directory at other → AlikeAt directory at (loose_bytes loose) other → (which : ℕ) × (which ≤ at) × ChosenAt directory at record { which = which; loose = loose } other
choice_for directory at other loose lawful possible alike =
    let descriptor : Contains possible.state.may other.descriptor = possible.fits.descriptor in
    let few : length possible.state.may ≤ at + 1 = (lawful possible.state possible.stood).few in (
      descriptor.0,
      omega (arith, descriptor.1),
      λ state stood.
          let same : possible.state ≡ state = some_is possible.state state (sym possible.stood ∙ stood) in
          subst (λ s. IsChosen s record { which = descriptor.0; loose = loose } other) same record {
            entered = possible.fits.entered;
            loose = alike possible.state possible.stood;
            absent = possible.fits.absent;
            descriptor = named possible.state.may descriptor.0 other.descriptor descriptor.1 descriptor.2;
          },
    )

pub possible_chosen : (directory : Directory) (at : ℕ) (choice : Choice) (image : Image) → at ≤ length directory.past → ChosenAt directory at choice image → PossibleAt directory at image
possible_chosen directory at choice image within chosen =
    let found : (state : State) × (slice_get (states directory) at ≡ Some state) = stood_at directory at within in
    record { state = found.0; stood = found.1; fits = fits_chosen found.0 choice image (chosen found.0 found.1) }

pub only_chosen : (directory : Directory) (at : ℕ) (choice : Choice) (image : Image) → at ≤ length directory.past → ChosenAt directory at choice image → (other : Image) → ChosenAt directory at choice other → IsSame other image
only_chosen directory at choice image within chosen other again =
    let found : (state : State) × (slice_get (states directory) at ≡ Some state) = stood_at directory at within in
    same_chosen found.0 choice image other (chosen found.0 found.1) (again found.0 found.1)
