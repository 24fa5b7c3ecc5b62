-- What is kept of the notes: the tablets in the order of their first rows, and for each how far above its own place stands
-- the youngest tablet that took the row right before one of its rows.
use Rattle.std.specs.Prelude.{◌≡◌, ◌≢◌, ℕ, ◌+◌, ◌<◌, ◌≤◌, ◌⊎◌, List, length, slice_index}

pub record Kept : Type 0 where
  pub tablets : List ℕ
  pub ahead : List ℕ
  pub last : ℕ
  pub spare : ℕ

-- each tablet has its distance, and no distance leads past the tablets. `last` is one above a tablet's place, or 0
pub record IsWithin (tablets ahead : List ℕ) (above : ℕ) : Type 0 where
  pub paired : length ahead ≡ length tablets
  pub within : (j : ℕ) → j < length ahead → j + slice_index ahead j < length ahead
  pub last : above ≤ length tablets

abbrev pub AreDistinct : List ℕ → Type 0
AreDistinct tablets = (i j : ℕ) → i < j → j < length tablets → slice_index tablets i ≢ slice_index tablets j

-- no number is above the greatest
abbrev pub AreUpTo : List ℕ → ℕ → Type 0
AreUpTo tablets greatest = (k : ℕ) → k < length tablets → slice_index tablets k ≤ greatest

-- the row went to the tablet at this place
pub record IsAt (tablets notes : List ℕ) (row place : ℕ) : Type 0 where
  pub noted : row < length notes
  pub held : place < length tablets
  pub same : slice_index notes row ≡ slice_index tablets place

-- tablets, distances and a last row's tablet that stand for these notes
pub record Holds (tablets ahead : List ℕ) (above : ℕ) (notes : List ℕ) : Type 0 where
  -- the tablets are those of the rows, in the order of their first rows
  pub distinct : AreDistinct tablets
  pub placed : (row : ℕ) → row < length notes → (place : ℕ) × IsAt tablets notes row place
  pub used : (place : ℕ) → place < length tablets → (row : ℕ) × IsAt tablets notes row place
  pub older : (row place low : ℕ) → IsAt tablets notes row place → low ≤ place → (before : ℕ) × (before ≤ row) × IsAt tablets notes before low
  -- the row before a tablet's row went no farther up than the tablet's distance, and each distance is there for a row
  pub reached : (row low high : ℕ) → IsAt tablets notes row high → IsAt tablets notes (row + 1) low → high ≤ low + slice_index ahead low
  pub needed : (place : ℕ) → place < length tablets → (slice_index ahead place ≡ 0) ⊎ ((row : ℕ) × IsAt tablets notes row (place + slice_index ahead place) × IsAt tablets notes (row + 1) place)
  -- one above the place of the last row's tablet, or 0 where no row is noted
  pub last : (row place : ℕ) → row + 1 ≡ length notes → IsAt tablets notes row place → above ≡ place + 1
  pub none : length notes ≡ 0 → above ≡ 0

-- what is kept stands for these notes
abbrev pub StandsFor : Kept → List ℕ → Type 0
StandsFor k notes = Holds k.tablets k.ahead k.last notes
