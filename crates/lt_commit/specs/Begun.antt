-- An empty table, as a stone, as a descriptor and as an image, and what making one leaves.
use Rattle.std.specs.Prelude.{◌≡◌, ◌⊎◌, ◌≤◌, ℕ, List, [], ◌∷◌, Option, Some, None, Ok, Contains}
use Rattle.lt_io.specs.Directory.{State, Image, Directory, PossibleAt, moment}
use Rattle.lt_schema.specs.Shapes.{SchemaShape}
use Rattle.lt_desc.specs.Shape.{StoneShape}
use Rattle.lt_desc.specs.Reading.{stone_at}
use Rattle.lt_desc.specs.Spelling.{spelling}
use Rattle.lt_commit.specs.Anchored.{Anchored}

-- the stone of a table that never had a row: no change of its schema, no bound, no tablet
pub record IsEmpty (schema : SchemaShape) (given : Option ℕ) (stone : StoneShape) : Type 0 where
  pub kept : stone.kept ≡ 0
  pub low : stone.low ≡ 0
  pub ttl : stone.ttl ≡ given
  pub schemas : stone.schemas ≡ record { first = schema; changes = [] }
  pub tablets : stone.tablets ≡ []

-- the descriptor is there, spells such a stone and is read as it
pub record SpellsEmpty (schema : SchemaShape) (ttl : Option ℕ) (descriptor : Option (List ℕ)) : Type 0 where
  pub stone : StoneShape
  pub empty : IsEmpty schema ttl stone
  pub spelled : descriptor ≡ Some (spelling stone)
  pub read : stone_at (spelling stone) ≡ Ok stone

-- the image opens to the empty table
abbrev pub OpensEmpty : SchemaShape → Option ℕ → Image → Type 0
OpensEmpty schema ttl image = SpellsEmpty schema ttl image.descriptor

-- while the table is made: the files stand, and each possible descriptor was possible before or is that of an empty table
pub record Begins (schema : SchemaShape) (ttl : Option ℕ) (before after : State) : Type 0 where
  pub files : after.files ≡ before.files
  pub ceiling : before.ceiling ≤ after.ceiling
  pub old_or_empty : (descriptor : Option (List ℕ)) → Contains after.may descriptor → Contains before.may descriptor ⊎ SpellsEmpty schema ttl descriptor

-- From the start of the call on, each possible image has no descriptor or opens to the empty table.
abbrev pub NoneOrEmpty : SchemaShape → Option ℕ → Directory → Directory → Type 0
NoneOrEmpty schema ttl old new = (at : ℕ) (image : Image) → moment old ≤ at → PossibleAt new at image → (image.descriptor ≡ None) ⊎ OpensEmpty schema ttl image

-- now each possible image opens to the empty table
abbrev pub AllEmpty : SchemaShape → Option ℕ → Directory → Type 0
AllEmpty schema ttl new = (image : Image) → PossibleAt new (moment new) image → OpensEmpty schema ttl image

-- an empty stone is the only possible one, and its next file is the ceiling
pub record HoldsEmpty (schema : SchemaShape) (ttl : Option ℕ) (anchor : Anchored) : Type 0 where
  pub stone : StoneShape
  pub empty : IsEmpty schema ttl stone
  pub may : anchor.may ≡ Some stone ∷ []
  pub next : stone.next_file ≡ anchor.directory.now.ceiling
