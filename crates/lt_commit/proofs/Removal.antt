-- The calls of a sweep, one after the other.
use Rattle.std.proofs.Common.{◌≡◌, ◌<◌, ◌+◌, ℕ, List, length, take, get_or, None, Contains, Bool, true, false, nat_eq, Result, Ok, Err, IsErrOf, refl, sym, ◌∙◌, subst, ⊎_elim, add-one, eqb-true, eq-eqb}
use Rattle.std.proofs.Math.Seq.{take-suc}
use Rattle.std.proofs.lemmas.List.Elements.{Contains-push_cases}
use Rattle.lt_io.specs.Directory.{Directory, Image, Fits, file_at}
use Rattle.lt_io.specs.Device.{RemovesFile, SeesOthers, KeepsLent}
use Rattle.lt_io.specs.declared.device_error.DeviceError.{DeviceError}
use Rattle.lt_io.specs.declared.device_error.DeviceError.TheVariants.{Failed, NoMemory}
use Rattle.lt_io.specs.Steps.{Steps}
use Rattle.lt_io.proofs.Chains.{Steps-none, Steps-join, Steps-removed, Steps-weaken}
use Rattle.lt_commit.specs.Moments.{Sweeps}
use Rattle.lt_commit.specs.Swept.{SeesKept}
use Rattle.lt_commit.proofs.Orders.{sweeping, sweeps_loosened}

pub removed_none : (goes : ℕ → Type 0) (old : Directory) → Steps (Sweeps goes) old old
removed_none goes old = Steps-none (Sweeps goes) (sweeping goes) old

pub removed_one : (goes : ℕ → Type 0) (first old new : Directory) (number : ℕ) (result : Result (Unit {0}) DeviceError) → goes number
    → Steps (Sweeps goes) first old → RemovesFile old new number result → (IsErrOf result NoMemory → new ≡ old) → Steps (Sweeps goes) first new
removed_one goes first old new number result gone so_far removes same =
    Steps-join (Sweeps goes) (sweeping goes) first old new so_far
    (Steps-removed (Sweeps goes) (sweeping goes) old new number result removes same (sweeps_loosened goes old.now number gone))

pub sees_none : (goes : ℕ → Type 0) (image : Image) → SeesKept goes image image
sees_none goes image = record { descriptor = refl; files = λ number stays. refl }

pub sees_one : (goes : ℕ → Type 0) (first old new : Image) (number : ℕ) → goes number → SeesKept goes first old → SeesOthers old new number → SeesKept goes first new
sees_one goes first old new number gone so_far sees = record {
  descriptor = sees.descriptor ∙ so_far.descriptor;
  files = λ other stays. sees.others other (λ same. stays (subst goes (sym same) gone)) ∙ so_far.files other stays;
}

pub fits_one : (first old new : Directory) (number : ℕ) (result : Result (Unit {0}) DeviceError) → (Fits first.seen first.now → Fits old.seen old.now)
    → RemovesFile old new number result → (IsErrOf result NoMemory → new ≡ old) → Fits first.seen first.now → Fits new.seen new.now
fits_one first old new number (Ok done) so_far removes same fits = removes.ok.possible
fits_one first old new number (Err Failed) so_far removes same fits = (removes.failed refl).possible
fits_one first old new number (Err NoMemory) so_far removes same fits = subst (λ d. Fits d.seen d.now) (sym (same refl)) (so_far fits)

gone_other : (old new : Image) (number file : ℕ) (same : Bool) → nat_eq file number ≡ same → SeesOthers old new number → file_at new.files number ≡ None → file_at old.files file ≡ None → file_at new.files file ≡ None
gone_other old new number file true is sees gone was = subst (λ n. file_at new.files n ≡ None) (sym (eqb-true file number is)) gone
gone_other old new number file false is sees gone was = sees.others file (λ e. let no : false ≡ true = sym is ∙ eq-eqb file number e in cc) ∙ was

-- the files before that place are gone, and then the one at it
pub gone_one : (old new : Image) (files : List ℕ) (at : ℕ) → at < length files → SeesOthers old new (get_or files at 0) → file_at new.files (get_or files at 0) ≡ None
    → ((file : ℕ) → Contains (take at files) file → file_at old.files file ≡ None) → (file : ℕ) → Contains (take (at + 1) files) file → file_at new.files file ≡ None
gone_one old new files at within sees gone so_far file is =
    ⊎_elim (λ before. gone_other old new (get_or files at 0) file (nat_eq file (get_or files at 0)) refl sees gone (so_far file before))
    (λ here. subst (λ n. file_at new.files n ≡ None) here gone)
    (Contains-push_cases (take at files) (get_or files at 0) file (subst (λ l. Contains l file) (rw (add-one, take-suc files at 0) refl) is))

pub lent_on : (first old new : Directory) → KeepsLent first old → KeepsLent old new → KeepsLent first new
lent_on first old new so_far more = record { ceiling = more.ceiling ∙ so_far.ceiling; lends = more.lends ∙ so_far.lends }

-- ---- more may go than those that did

pub steps_wider : (goes wider : ℕ → Type 0) → ((number : ℕ) → goes number → wider number) → (old new : Directory) → Steps (Sweeps goes) old new → Steps (Sweeps wider) old new
steps_wider goes wider so old new steps =
    Steps-weaken (Sweeps goes) (Sweeps wider)
    (λ before after sweeps. record {
      stands = λ number bytes stays e. sweeps.stands number bytes (λ gone. stays (so number gone)) e;
      stood = sweeps.stood;
      may = sweeps.may;
      ceiling = sweeps.ceiling;
    })
    old new steps

pub sees_wider : (goes wider : ℕ → Type 0) → ((number : ℕ) → goes number → wider number) → (old new : Image) → SeesKept goes old new → SeesKept wider old new
sees_wider goes wider so old new sees = record { descriptor = sees.descriptor; files = λ number stays. sees.files number (λ gone. stays (so number gone)) }

pub swept : (goes : ℕ → Type 0) (gone slice : List ℕ) (held old new : Directory) → held ≡ old → slice ≡ gone → ((number : ℕ) → Contains gone number → goes number) → Steps (Sweeps (Contains slice)) held new → Steps (Sweeps goes) old new
swept goes gone slice held old new same slice_is so steps =
    subst (λ d. Steps (Sweeps goes) d new) same
    (steps_wider (Contains slice) goes (λ number is. so number (subst (λ l. Contains l number) slice_is is)) held new steps)

pub sees_swept : (goes : ℕ → Type 0) (gone slice : List ℕ) (held old : Directory) (new : Image) → held ≡ old → slice ≡ gone → ((number : ℕ) → Contains gone number → goes number) → SeesKept (Contains slice) held.seen new → SeesKept goes old.seen new
sees_swept goes gone slice held old new same slice_is so sees =
    subst (λ d. SeesKept goes d.seen new) same
    (sees_wider (Contains slice) goes (λ number is. so number (subst (λ l. Contains l number) slice_is is)) held.seen new sees)
