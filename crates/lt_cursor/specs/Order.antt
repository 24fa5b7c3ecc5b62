-- The order of reading.
use Rattle.std.specs.Prelude.{◌≡◌, ◌≢◌, Bool, true, List, [], ◌∷◌, reverse, if◌then◌else◌}
use Rattle.std.specs.List.{AllPairs}
use Rattle.lt_rec.specs.Record.{Record}
use Rattle.lt_kway.specs.Heads.{is_before}

-- a list in the order of reading: as it is or, where reading goes down, turned
abbrev pub in_order : {X : Type 0} → Bool → List X → List X
in_order down xs = if down then reverse xs else xs

-- each record is read before all that come after it; so no two have the same key
abbrev pub IsInOrder : Bool → List Record → Type 0
IsInOrder down recs = AllPairs (λ early late. is_before down early.key late.key ≡ true) recs

abbrev pub HaveDistinctKeys : List Record → Type 0
HaveDistinctKeys recs = AllPairs (λ r s. r.key ≢ s.key) recs

-- a record among records in the order of reading: ahead of the first that is read after it
abbrev pub placed : Bool → Record → List Record → List Record
placed down r [] = r ∷ []
placed down r (s ∷ recs) = if is_before down r.key s.key then r ∷ (s ∷ recs) else s ∷ placed down r recs

-- records, in any order, in the order of reading
unfoldable pub arranged : Bool → List Record → List Record
arranged down [] = []
arranged down (r ∷ recs) = placed down r (arranged down recs)
