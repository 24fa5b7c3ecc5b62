-- Which images are possible, at which moments.
use Rattle.std.proofs.Common.{◌≡◌, ◌≢◌, ◌⊎◌, ◌≤◌, ◌<◌, ◌+◌, ◌↔◌, ℕ, zero, suc, not, Bool, true, false, cond, nat_eq, List, [], ◌∷◌, ◌++◌, length, slice_get, Option, Some, None, Contains, refl, sym, ◌∙◌, ap, subst, inl, inr, ⊎_elim, arith, eqb-true, eq-eqb, ne_eqb, length-append}
use Rattle.std.proofs.lemmas.Map.Entries.{lookup-filter-keys}
use Rattle.std.proofs.lemmas.List.Elements.{Contains-append_left, Contains-push_cases}
use Rattle.std.proofs.lemmas.Option.{slice_get_within}
use Rattle.std.proofs.lemmas.Bool.{cases_lt}
use Rattle.lt_io.specs.Directory.{State, Image, Directory, Contents, Fits, PossibleAt, file_at, without, states, moment, entered, loosened, pointed, settled, raised, lent}
use Rattle.lt_io.specs.Device.{Moves}

-- ---- files

unless : {A : Type 0} (b : Bool) (x y : A) → cond (not b) x y ≡ cond b y x
unless true x y = refl
unless false x y = refl

-- the file is gone, and each other one is as it was
pub file_at-without : (number other : ℕ) (files : Contents) → file_at (without number files) other ≡ cond (nat_eq other number) None (file_at files other)
file_at-without number other files =
    lookup-filter-keys (nat_eq other) (λ k. not (nat_eq k number)) (not (nat_eq other number)) (λ k same. ap (λ m. not (nat_eq m number)) (sym (eqb-true other k same))) files
    ∙ unless (nat_eq other number) (file_at files other) None

pub file_at-entered : (state : State) (number : ℕ) (bytes : List ℕ) (other : ℕ) → file_at (entered state number bytes).files other ≡ cond (nat_eq other number) (Some bytes) (file_at state.files other)
file_at-entered state number bytes other =
    elim (nat_eq other number) as (λ b. nat_eq other number ≡ b → cond b (Some bytes) (file_at (without number state.files) other) ≡ cond b (Some bytes) (file_at state.files other)) [
      | true ↦ λ e. refl
      | false ↦ λ e. file_at-without number other state.files ∙ ap (λ b. cond b None (file_at state.files other)) e
    ] refl

pub file_at-loosened : (state : State) (number other : ℕ) → file_at (loosened state number).files other ≡ cond (nat_eq other number) None (file_at state.files other)
file_at-loosened state number other = file_at-without number other state.files

-- a file that is entered stands so, and nothing is known of one that was loosened
pub entered_here : (state : State) (number : ℕ) (bytes : List ℕ) → file_at (entered state number bytes).files number ≡ Some bytes
entered_here state number bytes = file_at-entered state number bytes number ∙ ap (λ b. cond b (Some bytes) (file_at state.files number)) (eq-eqb number number refl)

pub entered_other : (state : State) (number : ℕ) (bytes : List ℕ) (other : ℕ) → other ≢ number → file_at (entered state number bytes).files other ≡ file_at state.files other
entered_other state number bytes other apart = file_at-entered state number bytes other ∙ ap (λ b. cond b (Some bytes) (file_at state.files other)) (ne_eqb other number apart)

pub loosened_here : (state : State) (number : ℕ) → file_at (loosened state number).files number ≡ None
loosened_here state number = file_at-loosened state number number ∙ ap (λ b. cond b None (file_at state.files number)) (eq-eqb number number refl)

pub loosened_other : (state : State) (number other : ℕ) → other ≢ number → file_at (loosened state number).files other ≡ file_at state.files other
loosened_other state number other apart = file_at-loosened state number other ∙ ap (λ b. cond b None (file_at state.files other)) (ne_eqb other number apart)

some_of_loosened : (b : Bool) (o : Option (List ℕ)) (bytes : List ℕ) → cond b None o ≡ Some bytes → o ≡ Some bytes
some_of_loosened true o bytes e = cc
some_of_loosened false o bytes e = e

narrower : (b : Bool) (x y : Option (List ℕ)) (bytes : List ℕ) → cond b None y ≡ Some bytes → cond b x y ≡ Some bytes
narrower true x y bytes e = cc
narrower false x y bytes e = e

-- what stands after a file was loosened stood before
pub loosened_stood : (state : State) (number other : ℕ) (bytes : List ℕ) → file_at (loosened state number).files other ≡ Some bytes → file_at state.files other ≡ Some bytes
loosened_stood state number other bytes e = some_of_loosened (nat_eq other number) (file_at state.files other) bytes (sym (file_at-loosened state number other) ∙ e)

-- ---- images of the present moment, call by call

-- an entered file that an image may have is below the ceiling
pub entered_below : (image : Image) (state : State) (number : ℕ) (bytes : List ℕ) → Fits image state → file_at state.files number ≡ Some bytes → number < state.ceiling
entered_below image state number bytes fits stands =
    ⊎_elim (λ below. below) (λ above. let none : None ≡ Some bytes = sym (fits.absent number above) ∙ fits.entered number bytes stands in cc) (cases_lt number state.ceiling)

-- a lend leaves each image possible
pub Fits-raised : (image : Image) (state : State) (ceiling : ℕ) → state.ceiling ≤ ceiling → Fits image state → Fits image (raised state ceiling)
Fits-raised image state ceiling up fits = record { entered = fits.entered; absent = λ number above. fits.absent number (omega arith); descriptor = fits.descriptor }

-- to loosen a file leaves each image possible
pub Fits-loosened : (image : Image) (state : State) (number : ℕ) → Fits image state → Fits image (loosened state number)
Fits-loosened image state number fits = record {
  entered = λ other bytes e. fits.entered other bytes (loosened_stood state number other bytes e);
  absent = fits.absent;
  descriptor = fits.descriptor;
}

-- an image of a state with an entered file has the file, and is an image of the state in which the file is loose
pub Fits-entered : (image : Image) (state : State) (number : ℕ) (bytes : List ℕ) → Fits image (entered state number bytes) → (file_at image.files number ≡ Some bytes) × Fits image (loosened state number)
Fits-entered image state number bytes fits = (
  fits.entered number bytes (entered_here state number bytes),
  record {
    entered = λ other given e. fits.entered other given (file_at-entered state number bytes other
        ∙ narrower (nat_eq other number) (Some bytes) (file_at state.files other) given (sym (file_at-loosened state number other) ∙ e));
    absent = fits.absent;
    descriptor = fits.descriptor;
  },
)

stands_so : (b : Bool) (bytes given : List ℕ) (here before : Option (List ℕ)) → (b ≡ true → here ≡ Some bytes) → (cond b None before ≡ Some given → here ≡ Some given) → cond b (Some bytes) before ≡ Some given → here ≡ Some given
stands_so true bytes given here before same else e = same refl ∙ e
stands_so false bytes given here before same else e = else e

-- and each image in which the file stands so is one
pub Fits-entered_from : (image : Image) (state : State) (number : ℕ) (bytes : List ℕ) → Fits image (loosened state number) → file_at image.files number ≡ Some bytes → Fits image (entered state number bytes)
Fits-entered_from image state number bytes fits stands = record {
  entered = λ other given e. stands_so (nat_eq other number) bytes given (file_at image.files other) (file_at state.files other)
      (λ same. ap (file_at image.files) (eqb-true other number same) ∙ stands)
      (λ loose. fits.entered other given (file_at-loosened state number other ∙ loose))
      (sym (file_at-entered state number bytes other) ∙ e);
  absent = fits.absent;
  descriptor = fits.descriptor;
}

-- after a `point` the image has the new descriptor or was possible before
pub Fits-pointed : (image : Image) (state : State) (bytes : List ℕ) → Fits image (pointed state bytes) → Fits image state ⊎ (image.descriptor ≡ Some bytes)
Fits-pointed image state bytes fits =
    ⊎_elim (λ old. inl record { entered = fits.entered; absent = fits.absent; descriptor = old }) (λ new. inr (sym new)) (Contains-push_cases state.may (Some bytes) image.descriptor fits.descriptor)

-- what was possible stays so
pub Fits-pointed_old : (image : Image) (state : State) (bytes : List ℕ) → Fits image state → Fits image (pointed state bytes)
Fits-pointed_old image state bytes fits = record { entered = fits.entered; absent = fits.absent; descriptor = Contains-append_left state.may _ image.descriptor fits.descriptor }

-- after a `settle` the descriptor is the one that was settled
pub Fits-settled : (image : Image) (state : State) (descriptor : Option (List ℕ)) → Fits image (settled state descriptor) → image.descriptor ≡ descriptor
Fits-settled image state descriptor fits =
    ⊎_elim (λ none. absurd (omega (arith, none.1))) (λ same. sym same) (Contains-push_cases [] descriptor image.descriptor fits.descriptor)

-- to settle one that was possible leaves no new image
pub Fits-settled_old : (image : Image) (state : State) (descriptor : Option (List ℕ)) → Contains state.may descriptor → Fits image (settled state descriptor) → Fits image state
Fits-settled_old image state descriptor was fits = record {
  entered = fits.entered;
  absent = fits.absent;
  descriptor = subst (Contains state.may) (sym (Fits-settled image state descriptor fits)) was;
}

-- ---- moments

pub get_within : (states later : List State) (at : ℕ) → at < length states → slice_get (states ++ later) at ≡ slice_get states at
get_within [] later at below = absurd (omega arith)
get_within (state ∷ states) later zero below = refl
get_within (state ∷ states) later (suc at) below = get_within states later at (omega arith)

pub get_seam : (states later : List State) (state : State) → slice_get (states ++ state ∷ later) (length states) ≡ Some state
get_seam [] later state = refl
get_seam (before ∷ states) later state = get_seam states later state

pub some_is : (state other : State) → Some state ≡ Some other → state ≡ other
some_is state other e = cc

-- the present moment's images are those that fit the present state
pub possible_now : (directory : Directory) (image : Image) → Fits image directory.now → PossibleAt directory (moment directory) image
possible_now directory image fits = record { state = directory.now; stood = get_seam directory.past [] directory.now; fits = fits }

pub fits_now : (directory : Directory) (image : Image) → PossibleAt directory (moment directory) image → Fits image directory.now
fits_now directory image possible =
    let same : Some possible.state ≡ Some directory.now = sym possible.stood ∙ get_seam directory.past [] directory.now in
    subst (Fits image) (some_is possible.state directory.now same) possible.fits

-- no image is possible after the present moment
pub possible_within : (directory : Directory) (at : ℕ) (image : Image) → PossibleAt directory at image → at ≤ moment directory
possible_within directory at image possible =
    omega (arith, slice_get_within (states directory) at possible.state possible.stood, length-append directory.past (directory.now ∷ []))

-- the images of a moment go by its state alone
pub PossibleAt-same : (old new : Directory) (at : ℕ) → slice_get (states new) at ≡ slice_get (states old) at → (image : Image) → PossibleAt new at image ↔ PossibleAt old at image
PossibleAt-same old new at same image = (
  λ possible. record { state = possible.state; stood = sym same ∙ possible.stood; fits = possible.fits },
  λ possible. record { state = possible.state; stood = same ∙ possible.stood; fits = possible.fits },
)

pub states-moved : (old new : Directory) (next : State) → Moves old new next → states new ≡ states old ++ next ∷ []
states-moved old new next moves = ap (λ past. past ++ new.now ∷ []) moves.past ∙ ap (λ now. states old ++ now ∷ []) moves.now

-- a moment later the images of that moment and of those before are what they were
pub PossibleAt-moved : (old new : Directory) (next : State) → Moves old new next → (at : ℕ) → at ≤ moment old → (image : Image) → PossibleAt new at image ↔ PossibleAt old at image
PossibleAt-moved old new next moves at past = PossibleAt-same old new at
    (ap (λ all. slice_get all at) (states-moved old new next moves)
    ∙ get_within (states old) (next ∷ []) at (omega (arith, length-append old.past (old.now ∷ []))))

-- and it is the present one's number by one more
pub moment-moved : (old new : Directory) (next : State) → Moves old new next → moment new ≡ moment old + 1
moment-moved old new next moves = ap length moves.past ∙ length-append old.past (old.now ∷ [])

-- a lend leaves the images of the past moments what they were
pub PossibleAt-lent : (directory : Directory) (number at : ℕ) → at < moment directory → (image : Image) → PossibleAt (lent directory number) at image ↔ PossibleAt directory at image
PossibleAt-lent directory number at past = PossibleAt-same directory (lent directory number) at
    (get_within directory.past (raised directory.now (number + 1) ∷ []) at past ∙ sym (get_within directory.past (directory.now ∷ []) at past))
