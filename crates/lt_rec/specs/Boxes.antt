-- Cuts of the keys' order, and boxes of keys and times.
use Rattle.std.specs.Prelude.{ℕ, Bool, true, not, ◌&&◌, ◌||◌, List, Option, Some, None, nat_le}
use Rattle.lt_rec.specs.Bytes.{is_less, begins_with}
use Rattle.lt_rec.specs.Record.{Record}
use Rattle.lt_rec.specs.declared.cut.Cut.{Cut}
use Rattle.lt_rec.specs.declared.raw_box.RawBox.{RawBox}

-- the key comes before the cut's bytes; or the cut lies after all keys that begin with them, and this is one
abbrev pub is_below : Cut → List ℕ → Bool
is_below cut key = is_less key cut.bytes || (cut.after && begins_with key cut.bytes)

-- not below the lower bound. An absent bound asks nothing
abbrev pub meets_lo : Option Cut → List ℕ → Bool
meets_lo None key = true
meets_lo (Some cut) key = not (is_below cut key)

-- below the upper bound. An absent bound asks nothing
abbrev pub meets_hi : Option Cut → List ℕ → Bool
meets_hi None key = true
meets_hi (Some cut) key = is_below cut key

-- the key meets both key bounds, and the timestamp is from `from` to `to`, both included
abbrev pub admits : RawBox → List ℕ → ℕ → Bool
admits raw_box key ts = (meets_lo raw_box.lo key && meets_hi raw_box.hi key) && (nat_le raw_box.from ts && nat_le ts raw_box.to)

abbrev pub in_box : RawBox → Record → Bool
in_box raw_box r = admits raw_box r.key r.ts
