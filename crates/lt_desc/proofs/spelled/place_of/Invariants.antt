use Rattle.std.proofs.Common.{◌≡◌, ◌+◌, drop}
use Rattle.lt_desc.specs.Spelling.{place_of}
use Rattle.lt_desc.proofs.spelled.place_of.Given as goal

-- none of the columns before has the name
abbrev pub invariant-loop-at : goal.invariant-loop-at
invariant-loop-at l = l.at + place_of l.name (drop l.at l.columns) ≡ place_of l.name l.columns
