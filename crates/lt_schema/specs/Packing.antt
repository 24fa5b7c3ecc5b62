-- Values that lie in one buffer.
use Rattle.std.specs.Prelude.{ℕ, ◌+◌, ◌≤◌, List, length, take, drop}
use Rattle.std.specs.Str.{IsUtf8}
use Rattle.lt_schema.specs.declared.value.Value.{Value}
use Rattle.lt_schema.specs.declared.value.Value.TheVariants.{Int, Text, Blob}
use Rattle.lt_schema.specs.declared.value_view.ValueView.{ValueView}
use Rattle.lt_schema.specs.declared.value_view.ValueView.TheVariants as views
use Rattle.lt_schema.specs.declared.packed.Slot.{Slot}
use Rattle.lt_schema.specs.declared.packed.Slot.TheVariants as slots

-- so many elements from a place on
abbrev pub part : {X : Type 0} → ℕ → ℕ → List X → List X
part from len xs = take len (drop from xs)

-- the value that a view shows
abbrev pub value_of : ValueView → Value
value_of (views.Int z) = Int z
value_of (views.Text s) = Text s.now
value_of (views.Blob s) = Blob s.now

-- the value of a slot over these bytes
abbrev pub value_in : List ℕ → Slot → Value
value_in bytes (slots.Int z) = Int z
value_in bytes (slots.Text from len) = Text (part from len bytes)
value_in bytes (slots.Blob from len) = Blob (part from len bytes)

-- a slot's bytes are among these, and a text's are UTF-8
abbrev pub LiesIn : List ℕ → Slot → Type 0
LiesIn bytes (slots.Int z) = Unit {0}
LiesIn bytes (slots.Text from len) = (from + len ≤ length bytes) × IsUtf8 (part from len bytes)
LiesIn bytes (slots.Blob from len) = from + len ≤ length bytes
