-- A purge: the low bound rises, and tablets leave the list that have no record from it on.
use Rattle.std.specs.Prelude.{ℕ, ◌+◌, ◌^◌, ◌≡◌, ◌≤◌, ◌<◌, ◌⊎◌, Bool, true, List, [], ◌∷◌, ◌++◌, map, Ok, Some, Contains}
use Rattle.lt_io.specs.Directory.{lent}
use Rattle.lt_io.specs.Steps.{Steps}
use Rattle.lt_rec.specs.Record.{Record}
use Rattle.lt_desc.specs.Shape.{StoneShape}
use Rattle.lt_desc.specs.Lawful.{IsStone}
use Rattle.lt_desc.specs.Reading.{stone_at}
use Rattle.lt_desc.specs.Spelling.{spelling}
use Rattle.lt_commit.specs.Anchored.{Anchored, IsAnchored}
use Rattle.lt_commit.specs.Moments.{Replaces}
use Rattle.lt_model.specs.History.{bound_entry}
use Rattle.lt_trace.specs.Elements.{Story, entry, grown}
use Rattle.lt_state.specs.State.{Core, Sealed}
use Rattle.lt_state.specs.Stands.{StandsFor}
use Rattle.lt_events.specs.Cores.{with_lent}

-- the new low bound, and the tablets that stay in the list
pub record Purge : Type 0 where
  pub bound : ℕ
  pub left : List Sealed

-- the core's own stone with the bound and these tablets
abbrev pub purged_stone : Core → Purge → StoneShape
purged_stone c purge = record { kept = c.kept; low = purge.bound; ttl = c.ttl; next_file = c.next_file + 1; schemas = c.schemas; tablets = map (λ (t : Sealed). t.listed) purge.left }

-- it was published
abbrev pub with_purge : Core → Purge → Anchored → Core
with_purge c purge after = record c { low = purge.bound; listed = purge.left; next_file = c.next_file + 1; anchor = after; count = c.count + 1 }

-- The bound falls not and is a moment. No tablet is new, and each that leaves has only records below the bound.
pub record IsPurge (told : Bool) (c : Core) (purge : Purge) : Type 0 where
  pub no_lower : c.low ≤ purge.bound
  pub moment : purge.bound < 2 ^ 62
  pub was : (t : Sealed) → Contains purge.left t → Contains c.listed t
  pub stays : (t : Sealed) → Contains c.listed t → Contains purge.left t ⊎ (told ≡ true → (rec : Record) → Contains t.recs rec → rec.ts < purge.bound)

-- A core that published a purge stands for its story with the bound.
abbrev pub PurgeStands : Type 0
PurgeStands = (told : Bool) (c : Core) (s : Story) (purge : Purge) (after : Anchored)
    → StandsFor told c s → IsPurge told c purge → IsStone (purged_stone c purge) → c.next_file < 2 ^ 62
    → IsAnchored told c.anchor → IsAnchored told after → after.may ≡ Some (purged_stone c purge) ∷ []
    → (told ≡ true → Steps (Replaces c.next_file (spelling (purged_stone c purge))) c.anchor.directory after.directory)
    → after.directory.now.ceiling ≡ c.next_file + 1 → after.directory.lends ≡ c.anchor.directory.lends + 1
    → StandsFor told (with_purge c purge after) (grown s (entry (bound_entry purge.bound) ∷ []))

-- Publishing it failed, so that its stone may be possible or not: the core stands for the same story.
abbrev pub PurgeFaultStands : Type 0
PurgeFaultStands = (told : Bool) (c : Core) (s : Story) (purge : Purge) (after : Anchored)
    → StandsFor told c s → IsPurge told c purge → IsStone (purged_stone c purge) → c.next_file < 2 ^ 62
    → IsAnchored told c.anchor → IsAnchored told after → (after.may ≡ c.anchor.may) ⊎ (after.may ≡ c.anchor.may ++ Some (purged_stone c purge) ∷ [])
    → (told ≡ true → Steps (Replaces c.next_file (spelling (purged_stone c purge))) c.anchor.directory after.directory)
    → (told ≡ true → (after.directory ≡ lent c.anchor.directory c.next_file) ⊎ (stone_at (spelling (purged_stone c purge)) ≡ Ok (purged_stone c purge)))
    → after.directory.now.ceiling ≡ c.next_file + 1 → after.directory.lends ≡ c.anchor.directory.lends + 1
    → StandsFor told (with_lent c after) s
