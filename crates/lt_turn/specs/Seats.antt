-- Words for clauses on seats. A seat is the name of its turn, what it knows, and its parts of the right to know the whole.
use Rattle.std.specs.Prelude.{◌≡◌, ℕ, List, [], ◌∷◌, Some, None, Option, ◌⊎◌, true}
use mathlib.Core.List.{IsPrefix}
use Rattle.atomic_table.specs.Seated.{TableId}
use Rattle.lt_turn.specs.declared.view.View.{View}
use Rattle.lt_turn.specs.declared.view.Role.TheVariants.{Idle, Level}
use Rattle.lt_turn.specs.Lists.{entries, of, added, Every, numbers, has}
use Rattle.lt_turn.specs.Rule.{Accounts}

-- which turn it is
abbrev pub TurnName : Type 0
TurnName = TableId

abbrev pub Sitting : Type 0 → Type 0
Sitting X = TurnName × (View X × ℕ)

module _ {X : Type 0} where
  abbrev pub view : Sitting X → View X
  view s = s.1.0

  abbrev pub number : Sitting X → ℕ
  number s = s.1.0.number

  abbrev pub seen : Sitting X → List (ℕ × X)
  seen s = s.1.0.seen

  abbrev pub mine : Sitting X → List X
  mine s = s.1.0.mine

  abbrev pub ended : Sitting X → List (ℕ × List X)
  ended s = s.1.0.ended

  abbrev pub parts : Sitting X → ℕ
  parts s = s.1.1

  abbrev pub IsOf : Sitting X → TurnName → Type 0
  IsOf s turn = s.0 ≡ turn

  abbrev pub Holds : Sitting X → Type 0
  Holds s = s.1.0.role ≡ Level

  abbrev pub IsIdle : Sitting X → Type 0
  IsIdle s = s.1.0.role ≡ Idle

module _ {H T X : Type 0} (value : H → Option T) (book : H → ℕ) where
  -- the slot that a seat carries while it holds the turn has the book, and no value
  abbrev pub Carries : View X → List (ℕ × Option H) → Type 0
  Carries v slots =
      ((v.role ≡ Idle) × (slots ≡ []))
      ⊎ ((v.role ≡ Level) × ((h : H) × (slots ≡ (0, Some h) ∷ []) × (value h ≡ None) × (book h ≡ added v.seen)))

-- what a value that is taken out of a turn by this seat stands for: a list that begins with what the seat had seen, and in
-- which the seat's entries, and those of each seat that was joined into it, are all that carry their numbers. A seat that has
-- every part has all numbers: no entry is left but those that the turn was made with
pub record Closed {T X : Type 0} (stands : T → List X → Type 0) (every_part : ℕ) (s : Sitting X) (value : T) : Type 0 where
  pub list : List (ℕ × X)
  pub stood : stands value (entries list)
  pub begins : IsPrefix (seen s) list
  pub opening : of 0 list ≡ of 0 (seen s)
  pub accounts : Accounts list (view s)
  pub alone : parts s ≡ every_part → Every (λ t. has (0 ∷ number s ∷ numbers (ended s)) t.0 ≡ true) list
