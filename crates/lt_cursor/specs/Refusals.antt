-- Refusals of cursors.
use Rattle.std.specs.Prelude.{◌≡◌, Bool, true, Option, Some, None}
use Rattle.lt_tablet.specs.declared.errors.ReadError.{ReadError}
use Rattle.lt_tablet.specs.declared.errors.ReadError.TheVariants as read_errors
use Rattle.lt_tablet.specs.Causes.{IsNoBad}
use Rattle.lt_cursor.specs.declared.error.CursorError.{CursorError}
use Rattle.lt_cursor.specs.declared.error.CursorError.TheVariants.{Read, Ended}
use Rattle.lt_cursor.specs.Merging.{Merging, IsSoundMerging}

-- no device failed
abbrev pub IsNoFault : ReadError → Type 0
IsNoFault (read_errors.Bad file at) = Unit {0}
IsNoFault read_errors.Fault = ⊥
IsNoFault read_errors.NoMemory = Unit {0}

-- `Read` is answered where no refusal came before, and is kept; `Ended` tells the one that is kept
abbrev pub Refuses : (old new : Option ReadError) → CursorError → Type 0
Refuses old new (Read why) = (old ≡ None) × (new ≡ Some why)
Refuses old new (Ended why) = (old ≡ Some why) × (new ≡ Some why)

abbrev pub IsNeverBad : CursorError → Type 0
IsNeverBad (Read why) = IsNoBad why
IsNeverBad (Ended why) = IsNoBad why

-- what holds of a cursor over a device that tells what it holds: its sources are sound until a read is refused, and no
-- refusal is that of a broken rule
abbrev pub IsKept : Bool → Merging → Option ReadError → Type 0
IsKept honest m None = honest ≡ true → IsSoundMerging m m.waiting
IsKept honest m (Some why) = honest ≡ true → IsNoBad why
