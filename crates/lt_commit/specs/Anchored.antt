-- An anchor as plain data, and what its calls leave.
use Rattle.std.specs.Prelude.{◌≡◌, ℕ, ◌≤◌, ◌^◌, max, Bool, true, false, ◌||◌, ◌↔◌, nat_eq, length, Ok, List, [], ◌∷◌, Option, Some, None, map, Contains, IsSome}
use Rattle.std.specs.List.{list_any}
use Rattle.std.specs.List.Sorted.{IsStrictlyIncreasing}
use Rattle.std.specs.Option.{option_map}
use Rattle.lt_io.specs.Directory.{Image, Directory, Fits, PossibleAt, file_at, moment}
use Rattle.lt_desc.specs.Shape.{StoneShape}
use Rattle.lt_desc.specs.Lawful.{IsStone, lists_file}
use Rattle.lt_desc.specs.Reading.{stone_at}
use Rattle.lt_desc.specs.Spelling.{spelling}

-- the directory, and the possible stones in the order in which they joined (None for 'no descriptor')
pub record Anchored : Type 0 where
  pub directory : Directory
  pub may : List (Option StoneShape)

-- the descriptor of a stone
abbrev pub spelled : Option StoneShape → Option (List ℕ)
spelled stone = option_map spelling stone

-- the one that joined last
abbrev pub newest : List (Option StoneShape) → Option StoneShape
newest [] = None
newest (stone ∷ []) = stone
newest (older ∷ stone ∷ more) = newest (stone ∷ more)

-- What holds of each anchor: where its device tells, the possible descriptors are those of its stones, and what a read
-- gives is possible. Each stone is read back from its descriptor. 'No descriptor' joined last only where nothing else is
-- possible.
pub record IsAnchored (honest : Bool) (anchor : Anchored) : Type 0 where
  pub possible : honest ≡ true → anchor.directory.now.may ≡ map spelled anchor.may
  pub seen : honest ≡ true → Fits anchor.directory.seen anchor.directory.now
  pub readable : (stone : StoneShape) → Contains anchor.may (Some stone) → stone_at (spelling stone) ≡ Ok stone
  pub none : newest anchor.may ≡ None → anchor.may ≡ None ∷ []

-- from the start of the call on, each possible image was possible before it
abbrev pub NothingNew : Directory → Directory → Type 0
NothingNew old new = (at : ℕ) (image : Image) → moment old ≤ at → PossibleAt new at image → Fits image old.now

-- a possible stone lists the file
pub record IsNamed (may : List (Option StoneShape)) (file : ℕ) : Type 0 where
  pub stone : StoneShape
  pub possible : Contains may (Some stone)
  pub listed : lists_file stone.tablets file ≡ true

-- a sweep takes the files that are there, that no possible stone lists and that are not busy
pub record Goes (anchor : Anchored) (busy : List ℕ) (file : ℕ) : Type 0 where
  pub there : IsSome (file_at anchor.directory.seen.files file)
  pub unnamed : IsNamed anchor.may file → ⊥
  pub free : Contains busy file → ⊥

-- so many files go
pub record CountsGone (anchor : Anchored) (busy : List ℕ) (count : ℕ) : Type 0 where
  pub gone : List ℕ
  pub rising : IsStrictlyIncreasing gone
  pub each : (file : ℕ) → Contains gone file ↔ Goes anchor busy file
  pub count_is : count ≡ length gone

-- the same as a test, and without the listing
abbrev pub names_file : ℕ → Option StoneShape → Bool
names_file file None = false
names_file file (Some stone) = lists_file stone.tablets file

abbrev pub is_spared : List (Option StoneShape) → List ℕ → ℕ → Bool
is_spared may busy file = list_any (names_file file) may || list_any (λ number. nat_eq number file) busy

-- The one possible stone is what the descriptor of the directory spells, and the next free file number is above each that
-- the directory lent or the stone uses.
pub record IsLoaded (honest : Bool) (old : Directory) (anchor : Anchored) (next : ℕ) : Type 0 where
  pub stone : StoneShape
  pub may : anchor.may ≡ Some stone ∷ []
  pub lawful : IsStone stone
  pub exact : honest ≡ true → option_map stone_at old.seen.descriptor ≡ Some (Ok stone)
  pub free : anchor.directory.now.ceiling ≤ next
  pub above : stone.next_file ≤ next
  pub in_range : next ≤ 2 ^ 62
  pub next_is : honest ≡ true → next ≡ max anchor.directory.now.ceiling stone.next_file
