-- The table of a stone without tablets, and the image that has its descriptor.
use Rattle.std.specs.Prelude.{◌≡◌, max, ℕ, Bool, true, [], Some, Ok}
use Rattle.std.specs.Option.{option_map}
use Rattle.lt_io.specs.Directory.{Image, Directory}
use Rattle.lt_desc.specs.Shape.{StoneShape}
use Rattle.lt_desc.specs.Lawful.{IsStone}
use Rattle.lt_desc.specs.Reading.{stone_at}
use Rattle.lt_desc.specs.Spelling.{spelling}
use Rattle.lt_model.specs.History.{Opening}
use Rattle.lt_model.specs.Crash.{Durable}

-- what is durable by a stone
abbrev pub durable_by : StoneShape → Durable
durable_by stone = record { schemas = stone.schemas; ttl = stone.ttl; low = stone.low; kept = stone.kept }

-- what is found of a table without rows in files
abbrev pub opening_of : StoneShape → Opening
opening_of stone = record { schemas = stone.schemas; ttl = stone.ttl; low = stone.low; next = stone.kept; kept = stone.kept; rows = [] }

-- The image opens to this: its descriptor is the spelling of a lawful stone, by which it is read; the stone lists no tablet,
-- so that there are no rows.
pub record OpensTo (image : Image) (stone : StoneShape) (found : Opening) : Type 0 where
  pub lawful : IsStone stone
  pub spelled : image.descriptor ≡ Some (spelling stone)
  pub read : stone_at (spelling stone) ≡ Ok stone
  pub bare : stone.tablets ≡ []
  pub found_is : found ≡ opening_of stone

-- the lawful stone that was loaded; where the device is honest, it is read from the descriptor of the directory
pub record IsLoadedFrom (honest : Bool) (directory : Directory) (stone : StoneShape) : Type 0 where
  pub lawful : IsStone stone
  pub exact : honest ≡ true → option_map stone_at directory.seen.descriptor ≡ Some (Ok stone)

-- the first free file number: above each that the directory lent or the stone uses
abbrev pub first_free : Directory → StoneShape → ℕ
first_free directory stone = max directory.now.ceiling stone.next_file
