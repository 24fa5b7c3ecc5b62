-- Heads in slots, and the order of the slots.
use Rattle.std.specs.Prelude.{◌≢◌, ℕ, ◌<◌, ◌≤◌, List, [], Option, Some, None, IsSome, length, map, take, slice_index_or}
use Rattle.std.specs.List.{All, AllPairs}
use Rattle.lt_kway.specs.declared.head.Head.{Head}

-- a slot's head; one of nothing where the slot is free
abbrev pub head_in : Option Head → Head
head_in None = record { source = 0; rec = record { key = []; ts = 0; seq = 0; ver = 0; body = [] } }
head_in (Some head) = head

-- the heads of the slots, in this order
abbrev pub heads_of : List (Option Head) → List ℕ → List Head
heads_of slots order = map (λ slot. head_in (slice_index_or slots slot None)) order

-- each of these slots has a head
abbrev pub AreHeld : List (Option Head) → List ℕ → Type 0
AreHeld slots order = All (λ slot. IsSome (slice_index_or slots slot None)) order

-- the order names slots, none of them twice, and those in front, so many, have a head
pub record AreSlots (slots : List (Option Head)) (order : List ℕ) (count : ℕ) : Type 0 where
  pub within : count ≤ length order
  pub each : All (λ slot. slot < length slots) order
  pub distinct : AllPairs (λ early late. early ≢ late) order
  pub held : AreHeld slots (take count order)
