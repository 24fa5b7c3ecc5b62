-- The order of byte strings, and how one begins with another.
use Rattle.std.specs.Prelude.{ℕ, Bool, List, nat_eq}
use Rattle.std.specs.Ordering.{is_lt, nat_cmp}
use Rattle.std.specs.Cmp.Lexicographic.{slice_cmp}
use Rattle.std.specs.List.{starts_with}

-- a comes before b: it has the smaller byte where they first differ, or ends there
abbrev pub is_less : List ℕ → List ℕ → Bool
is_less a b = is_lt (slice_cmp nat_cmp a b)

-- xs begins with p
abbrev pub begins_with : List ℕ → List ℕ → Bool
begins_with xs p = starts_with nat_eq xs p
