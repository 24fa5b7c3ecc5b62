use Rattle.std.proofs.Common.{◌≡◌, map, take}
use Rattle.std.specs.Arc.{arc_value}
use Rattle.lt_core.specs.Parts.{entry_of}
use Rattle.lt_core.proofs.tablets.listing_of.Given as goal

abbrev pub invariant-loop-tablet : goal.invariant-loop-tablet
invariant-loop-tablet g l = l.listing.items ≡ map (λ tablet. entry_of (arc_value tablet)) (take l.tablet-index l.tablets)
