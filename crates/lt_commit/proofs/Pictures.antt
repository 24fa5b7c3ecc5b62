-- What the chains of an anchor's calls say of images.
use Rattle.std.proofs.Common.{◌≤◌, ℕ, List, [], ◌∷◌, ◌++◌, Some, Contains, sym, ◌∙◌, ap, subst, ⊎_elim, arith}
use Rattle.std.proofs.lemmas.List.Elements.{Contains-append_left, Contains-push}
use Rattle.lt_io.specs.Directory.{State, Image, Directory, Fits, PossibleAt, file_at, moment}
use Rattle.lt_io.specs.Steps.{Steps}
use Rattle.lt_io.proofs.Chains.{FromOn-now, FromOn-steps, possible_each}
use Rattle.lt_commit.specs.Anchored.{NothingNew}
use Rattle.lt_commit.specs.Moments.{Narrows, Replaces, Sweeps, either}
use Rattle.lt_commit.specs.Swept.{IsKept}
use Rattle.lt_commit.proofs.Orders.{narrowing, replacing, sweeping}

fits_before : (before after : State) (image : Image) → Narrows before after → Fits image after → Fits image before
fits_before before after image narrows fits = record {
  entered = λ number bytes e. fits.entered number bytes (ap (λ files. file_at files number) narrows.files ∙ e);
  absent = λ number above. fits.absent number (omega (arith, narrows.ceiling));
  descriptor = narrows.possible image.descriptor fits.descriptor;
}

pub nothing_new : (old new : Directory) → Steps Narrows old new → NothingNew old new
nothing_new old new steps =
    possible_each (Narrows old.now) (λ image. Fits image old.now) (λ state image narrows fits. fits_before old.now state image narrows fits) (moment old) new
    (FromOn-steps Narrows (Narrows old.now) (λ before after more so_far. narrowing.further old.now before after so_far more) (moment old) old new (omega arith) steps
    (FromOn-now (Narrows old.now) old (narrowing.itself old.now)))

fits_either : (number : ℕ) (bytes : List ℕ) (before after : State) (image : Image) → before.ceiling ≤ number → Replaces number bytes before after → Fits image after → Fits image (either before number bytes)
fits_either number bytes before after image unlent replaces fits = record {
  entered = λ other given e. fits.entered other given (ap (λ files. file_at files other) replaces.files ∙ e);
  absent = λ other above. fits.absent other (⊎_elim (λ same. omega (arith, same, above)) (λ new. omega (arith, new, above)) replaces.ceiling);
  descriptor = ⊎_elim (λ was. Contains-append_left before.may (Some bytes ∷ []) image.descriptor was)
      (λ new. subst (Contains (before.may ++ Some bytes ∷ [])) (sym new) (Contains-push before.may (Some bytes)))
      (replaces.old_or_new image.descriptor fits.descriptor);
}

pub old_or_new : (number : ℕ) (bytes : List ℕ) (old new : Directory) → old.now.ceiling ≤ number → Steps (Replaces number bytes) old new
    → (at : ℕ) (image : Image) → moment old ≤ at → PossibleAt new at image → Fits image (either old.now number bytes)
old_or_new number bytes old new unlent steps =
    possible_each (Replaces number bytes old.now) (λ image. Fits image (either old.now number bytes)) (λ state image replaces fits. fits_either number bytes old.now state image unlent replaces fits) (moment old) new
    (FromOn-steps (Replaces number bytes) (Replaces number bytes old.now) (λ before after more so_far. (replacing number bytes).further old.now before after so_far more) (moment old) old new (omega arith) steps
    (FromOn-now (Replaces number bytes old.now) old ((replacing number bytes).itself old.now)))

fits_kept : (goes : ℕ → Type 0) (before after : State) (image : Image) → Sweeps goes before after → Fits image after → IsKept goes before image
fits_kept goes before after image sweeps fits = record {
  files = λ number bytes stays e. fits.entered number bytes (sweeps.stands number bytes stays e);
  absent = λ number above. fits.absent number (omega (arith, sweeps.ceiling));
  descriptor = subst (λ may. Contains may image.descriptor) sweeps.may fits.descriptor;
}

pub kept : (goes : ℕ → Type 0) (old new : Directory) → Steps (Sweeps goes) old new → (at : ℕ) (image : Image) → moment old ≤ at → PossibleAt new at image → IsKept goes old.now image
kept goes old new steps =
    possible_each (Sweeps goes old.now) (IsKept goes old.now) (λ state image sweeps fits. fits_kept goes old.now state image sweeps fits) (moment old) new
    (FromOn-steps (Sweeps goes) (Sweeps goes old.now) (λ before after more so_far. (sweeping goes).further old.now before after so_far more) (moment old) old new (omega arith) steps
    (FromOn-now (Sweeps goes old.now) old ((sweeping goes).itself old.now)))
