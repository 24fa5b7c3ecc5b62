-- What a directory in memory is.
use Rattle.std.specs.Prelude.{◌≤◌, ◌^◌, ℕ, [], ◌∷◌}
use Rattle.lt_io.specs.Directory.{Image, Directory, Fits}
use Rattle.lt_memdev.specs.Files.{above}
use Rattle.lt_memdev.specs.History.{Course}

-- a directory, and how many calls of `point` and `settle` it has room for
pub record Stored : Type 0 where
  pub directory : Directory
  pub spare : ℕ

-- the directory that begins with an image and has no past
abbrev pub opened : Image → Directory
opened image = record {
  past = [];
  now = record { files = image.files; may = image.descriptor ∷ []; ceiling = above image.files };
  seen = image;
  lends = 0;
}

-- what holds of each directory in memory
pub record IsStored (course : Course) (seen : Image) (lent spare : ℕ) : Type 0 where
  pub possible : Fits seen course.now
  pub ceiling : course.now.ceiling ≤ 2 ^ 62
  pub lends : lent ≤ course.now.ceiling
  pub room : spare ≤ course.room
  pub few : spare ≤ 2
