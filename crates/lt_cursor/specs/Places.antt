-- Places from one up to another, in the order of reading.
use Rattle.std.specs.Prelude.{ℕ, ◌+◌, ◌-◌, ◌≤◌, List, take, drop, if◌then◌else◌}
use Rattle.lt_cursor.specs.declared.places.Places.{Places}

abbrev pub first_place : Places → ℕ
first_place p = if p.down then p.to - 1 else p.from

abbrev pub behind_first : Places → Places
behind_first p = if p.down then record p { to = p.to - 1 } else record p { from = p.from + 1 }

-- the elements at the places, upward
abbrev pub between : {X : Type 0} → Places → List X → List X
between p xs = take (p.to - p.from) (drop p.from xs)

pub record AreWithin (p : Places) (count : ℕ) : Type 0 where
  pub ordered : p.from ≤ p.to
  pub within : p.to ≤ count
