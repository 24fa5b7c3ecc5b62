-- Boxes of keys and times, and what their bounds have to be.
use Rattle.std.specs.Prelude.{ℕ, Bool, true, ◌&&◌, List, length, nat_le, nat_lt, Option, Some, None, if◌then◌else◌}
use Rattle.std.specs.Ordering.{is_lt, is_le, is_gt, is_ge}
use Rattle.lt_schema.specs.declared.value.Value.{Value}
use Rattle.lt_schema.specs.Shapes.{SchemaShape}
use Rattle.lt_schema.specs.Values.{leading_cmp}
use Rattle.lt_schema.specs.Check.{wrong_kind_from}
use Rattle.lt_command.specs.declared.query.Edge.{Edge}
use Rattle.lt_command.specs.declared.query.Query.{Query}
use Rattle.lt_command.specs.declared.bound_fault.BoundFault.{BoundFault}
use Rattle.lt_command.specs.declared.bound_fault.BoundFault.TheVariants.{Count, WrongKind}
use Rattle.lt_model.specs.History.{Numbered, History}
use Rattle.lt_model.specs.Readings.{key_in, time_in}

-- the key isn't below the low edge; at a strict edge it doesn't begin with it either
abbrev pub meets_low : Option Edge → List Value → Bool
meets_low None key = true
meets_low (Some edge) key = if edge.strict then is_lt (leading_cmp edge.values key) else is_le (leading_cmp edge.values key)

-- the key isn't above the high edge; at a strict edge it doesn't begin with it either
abbrev pub meets_high : Option Edge → List Value → Bool
meets_high None key = true
meets_high (Some edge) key = if edge.strict then is_gt (leading_cmp edge.values key) else is_ge (leading_cmp edge.values key)

-- the row's key meets both edges, and its timestamp is one of the times, both ends included
abbrev pub in_box : History → Query → Numbered → Bool
in_box h query numbered =
    meets_low query.lo (key_in h numbered) && meets_high query.hi (key_in h numbered)
    && nat_le query.from (time_in h numbered) && nat_le (time_in h numbered) query.to

abbrev pub kind_fault : Option ℕ → Option BoundFault
kind_fault None = None
kind_fault (Some column) = Some (WrongKind column)

-- why values are no leading values of a key: the first that holds, or none
abbrev pub values_fault : SchemaShape → List Value → Option BoundFault
values_fault schema values = if nat_lt schema.key_len (length values) then Some Count else kind_fault (wrong_kind_from 0 schema.columns values)

abbrev pub edge_fault : SchemaShape → Option Edge → Option BoundFault
edge_fault schema None = None
edge_fault schema (Some edge) = values_fault schema edge.values

abbrev pub first_fault : Option BoundFault → Option BoundFault → Option BoundFault
first_fault None other = other
first_fault (Some fault) other = Some fault

-- the low edge's fault before the high one's
abbrev pub query_fault : SchemaShape → Query → Option BoundFault
query_fault schema query = first_fault (edge_fault schema query.lo) (edge_fault schema query.hi)

-- a prefix leaves out the timestamp at least
abbrev pub prefix_fault : SchemaShape → List Value → Option BoundFault
prefix_fault schema values = if nat_le schema.key_len (length values) then Some Count else kind_fault (wrong_kind_from 0 schema.columns values)

-- from 1 to 10,000
abbrev pub is_limit : ℕ → Bool
is_limit limit = nat_le 1 limit && nat_le limit 10000
