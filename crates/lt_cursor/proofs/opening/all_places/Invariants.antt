use Rattle.std.proofs.Common.{ℕ, ◌<◌}
use Rattle.std.specs.List.{All, Contains}
use Rattle.lt_cursor.proofs.opening.all_places.Given as goal

-- the places so far
abbrev pub invariant-loop-at : goal.invariant-loop-at
invariant-loop-at l = record {
  within : All (λ at. at < l.count) l.places.items;
  all : (at : ℕ) → at < l.at → Contains l.places.items at;
}
