-- The calls of a descriptor's replacement, as the directory shows them.
use Rattle.std.proofs.Common.{◌≡◌, List, ℕ, Bool, true, Result, Ok, sym, subst}
use Rattle.lt_io.specs.Directory.{Directory, Fits}
use Rattle.lt_io.specs.Device.{PointsAt, Settles}
use Rattle.lt_io.specs.Steps.{Steps}
use Rattle.lt_io.proofs.Chains.{Steps-join, Steps-same, Steps-pointed, Steps-settled}
use Rattle.lt_commit.specs.Moments.{Narrows, Replaces}
use Rattle.lt_commit.proofs.Orders.{narrowing, replacing, narrows_settled, replaces_pointed, replaces_settled}

-- As clauses: `honest` says that the device tells what it holds.
pub pointing : {E : Type 0} (honest : Bool) (old new : Directory) (bytes : List ℕ) (result : Result (Unit {0}) E) → (honest ≡ true → PointsAt old new bytes result) → honest ≡ true → (number : ℕ) → Steps (Replaces number bytes) old new
pointing honest old new bytes result points h number = Steps-pointed (Replaces number bytes) (replacing number bytes) old new bytes result (points h) (replaces_pointed number bytes old.now)

pub pointing_and_settling : {E : Type 0} (honest : Bool) (old middle new : Directory) (bytes : List ℕ) (result : Result (Unit {0}) E) → (honest ≡ true → PointsAt {E = E} old middle bytes (Ok tt)) → (honest ≡ true → Settles middle new result) → honest ≡ true → (number : ℕ) → Steps (Replaces number bytes) old new
pointing_and_settling {E} honest old middle new bytes result points settles h number =
    let pointed : PointsAt {E = E} old middle bytes (Ok tt) = points h in
    Steps-join (Replaces number bytes) (replacing number bytes) old middle new (pointing {E = E} honest old middle bytes (Ok tt) points h number)
    (Steps-settled (Replaces number bytes) (replacing number bytes) middle new result (settles h) (replaces_settled number bytes middle.now middle.seen.descriptor pointed.current))

settling : {E : Type 0} (old new : Directory) (result : Result (Unit {0}) E) → Fits old.seen old.now → Settles old new result → Steps Narrows old new
settling old new result fits settles = Steps-settled Narrows narrowing old new result settles (narrows_settled old.now old.seen.descriptor fits.descriptor)

pub unready : (honest : Bool) (old ready : Directory) → ready ≡ old → honest ≡ true → Steps Narrows old ready
unready honest old ready same h = Steps-same Narrows narrowing old ready same

-- the same, once there is room for it
pub settling_ready : {E : Type 0} (honest : Bool) (old ready new : Directory) (result : Result (Unit {0}) E) → ready ≡ old → (honest ≡ true → Fits old.seen old.now) → (honest ≡ true → Settles ready new result) → honest ≡ true → Steps Narrows old new
settling_ready honest old ready new result same fits settles h =
    subst (λ d. Steps Narrows d new) same (settling ready new result (subst (λ d. Fits d.seen d.now) (sym same) (fits h)) (settles h))
