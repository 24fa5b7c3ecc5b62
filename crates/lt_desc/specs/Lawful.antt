-- What a stone keeps.
use Rattle.std.specs.Prelude.{ℕ, ◌^◌, ◌<◌, ◌≤◌, Bool, true, not, ◌&&◌, ◌||◌, ◌==◌, nat_lt, List, [], ◌∷◌, length, IfSome, IsTrue}
use Rattle.std.specs.List.{list_all, list_any, AllByRecursion}
use Rattle.std.specs.Str.{is_utf8}
use Rattle.std.specs.Prelude.{ℤ, pos, negsuc}
use Rattle.lt_rec.specs.Periods.{IsPeriod, InPeriod}
use Rattle.lt_rec.specs.declared.listed.Listed.{Listed}
use Rattle.lt_schema.specs.declared.change.Change.{Change}
use Rattle.lt_schema.specs.declared.change.Change.TheVariants.{Append, Widen}
use Rattle.lt_schema.specs.declared.value.Value.{Value}
use Rattle.lt_schema.specs.declared.value.Value.TheVariants.{Int, Text, Blob}
use Rattle.lt_schema.specs.Shapes.{ColumnShape}
use Rattle.lt_schema.specs.Versions.{is_versions}
use Rattle.lt_desc.specs.Shape.{StoneShape}

-- ---- the list of tablets

-- one of the tablets has this file
abbrev pub lists_file : List Listed → ℕ → Bool
lists_file tablets file = list_any (λ t. t.file == file) tablets

abbrev pub files_differ : List Listed → Bool
files_differ [] = true
files_differ (t ∷ tablets) = not (lists_file tablets t.file) && files_differ tablets

-- by least timestamp, and where these are equal by file
abbrev pub comes_before : Listed → ℕ → ℕ → Bool
comes_before t low file = nat_lt t.low low || ((t.low == low) && nat_lt t.file file)

-- such a tablet may stand before these
abbrev pub leads : Listed → List Listed → Bool
leads t [] = true
leads t (next ∷ tablets) = comes_before t next.low next.file

abbrev pub rises : List Listed → Bool
rises [] = true
rises (t ∷ tablets) = leads t tablets && rises tablets

-- an entry of the list
pub record IsListed (kept next_file : ℕ) (t : Listed) : Type 0 where
  pub file : t.file < next_file
  pub rows : 1 ≤ t.rows
  pub times : t.low ≤ t.high
  pub moments : t.high < 2 ^ 62
  pub period : IsPeriod t.period
  pub begins_in : InPeriod t.period t.low
  pub ends_in : InPeriod t.period t.high
  pub numbers : t.first ≤ t.last
  pub settled : t.last < kept

pub record IsStone (s : StoneShape) : Type 0 where
  pub kept : s.kept ≤ 2 ^ 62
  pub low : s.low < 2 ^ 62
  pub ttl : IfSome s.ttl (λ t. (1 ≤ t) × (t < 2 ^ 62))
  pub next_file : s.next_file ≤ 2 ^ 62
  pub schemas : IsTrue (is_versions s.schemas)
  pub few : length s.tablets < 2 ^ 32
  pub tablets : AllByRecursion (IsListed s.kept s.next_file) s.tablets
  pub rising : IsTrue (rises s.tablets)
  pub once : IsTrue (files_differ s.tablets)

-- ---- what each value of the code's types keeps, and plain data may break

-- within 64 bits, signed
abbrev pub is_word : ℤ → Bool
is_word (pos n) = nat_lt n (2 ^ 63)
is_word (negsuc n) = nat_lt n (2 ^ 63)

abbrev pub fits_value : Value → Bool
fits_value (Int z) = is_word z
fits_value (Text text) = is_utf8 text
fits_value (Blob bytes) = true

abbrev pub fits_column : ColumnShape → Bool
fits_column column = fits_value column.default

abbrev pub fits_change : Change → Bool
fits_change (Append column) = fits_column column
fits_change (Widen name) = true

abbrev pub fits_tablet : Listed → Bool
fits_tablet t = nat_lt t.rows (2 ^ 64) && nat_lt t.bytes (2 ^ 64)

-- integers are within 64 bits, and texts are UTF-8
pub record Fits (s : StoneShape) : Type 0 where
  pub columns : IsTrue (list_all fits_column s.schemas.first.columns)
  pub changes : IsTrue (list_all fits_change s.schemas.changes)
  pub tablets : IsTrue (list_all fits_tablet s.tablets)
