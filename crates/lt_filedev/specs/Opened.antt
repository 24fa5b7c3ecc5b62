-- What is kept of a directory over real files.
use Rattle.std.specs.Prelude.{◌≡◌, ℕ, [], None, false, true}
use Rattle.std.proofs.Common.{true≢false, sym}
use Rattle.lt_io.specs.Directory.{Directory}

-- the number above each file that was lent, how many were, and for how many calls of `point` and `settle` there is room
pub record Opened : Type 0 where
  pub ceiling : ℕ
  pub lends : ℕ
  pub spare : ℕ

-- nothing was lent of it yet
abbrev pub IsUnused : Opened → Type 0
IsUnused opened = (opened.lends ≡ 0) × (opened.spare ≡ 0)

-- it tells no contents
abbrev pub directory_of : Opened → Directory
directory_of opened = record {
  past = [];
  now = record { files = []; may = []; ceiling = opened.ceiling };
  seen = record { files = []; descriptor = None };
  lends = opened.lends;
}

-- what is said of a device that tells its contents holds of one that doesn't
pub untold : {T : Type 0} → false ≡ true → T
untold told = absurd (true≢false (sym told))
