-- The rule of a turn, over its lock word, its count word, the value at home and all views, and what each step tells.
-- Word 0 is the lock: 0 where it is free. Word 1 is the length of the list. The one slot has the value and the book.
use Rattle.std.specs.Prelude.{◌≡◌, ◌≢◌, ℕ, suc, ◌<◌, ◌≤◌, List, [], ◌∷◌, ◌++◌, length, Some, None, Option, ◌⊎◌}
use mathlib.Core.Option as maybe
use mathlib.Core.Option.{none, some}
use mathlib.Core.List.{IsPrefix}
use lib.ListN.{get_elem?}
use Rattle.atomic_table.specs.Table.{State, Me, Step, rest}
use Rattle.lt_turn.specs.declared.view.View.{View}
use Rattle.lt_turn.specs.declared.view.Role.{Role}
use Rattle.lt_turn.specs.declared.view.Role.TheVariants.{Vacant, Note, Idle, Holding, Level, Shut, Spent}
use Rattle.lt_turn.specs.Lists.{entries, numbered, of, added, Every, Differ, numbers}

-- who has the lock
pub data Desk : Type 0 where
  free : Desk
  held : ℕ → Desk
  level : ℕ → Desk
  vacant : ℕ → Desk
  shut : ℕ → Desk

-- a turn that has its value
abbrev pub IsOpen : Desk → Type 0
IsOpen (vacant i) = ⊥
IsOpen _ = Unit {0}

-- the lock is free exactly where no view has it
abbrev pub LockFits : Desk → ℕ → Type 0
LockFits free n = n ≡ 0
LockFits _ n = 0 < n

-- what a view's role says of who has the lock. Who has not got it has a turn with its value
abbrev pub HasAs : Role → ℕ → Desk → Type 0
HasAs Vacant i desk = desk ≡ vacant i
HasAs Note i desk = IsOpen desk
HasAs Idle i desk = IsOpen desk
HasAs Holding i desk = desk ≡ held i
HasAs Level i desk = desk ≡ level i
HasAs Shut i desk = desk ≡ shut i
HasAs Spent i desk = Unit {0}

module _ {X : Type 0} where
  abbrev pub as_role : Role → View X → View X
  as_role r v = record { role = r; number = v.number; seen = v.seen; told = v.told; mine = v.mine; ended = v.ended }

  abbrev pub spent : View X
  spent = record { role = Spent; number = 0; seen = []; told = []; mine = []; ended = [] }

  -- the first view of a turn that has no value yet
  abbrev pub first : View X
  first = record { role = Vacant; number = 1; seen = []; told = []; mine = []; ended = [] }

  abbrev pub opened : List X → View X
  opened list = record { role = Level; number = 1; seen = numbered 0 list; told = []; mine = []; ended = [] }

  abbrev pub read : List (ℕ × X) → View X → View X
  read list v = record { role = Level; number = v.number; seen = list; told = v.told; mine = v.mine; ended = v.ended }

  abbrev pub raised : List X → View X → View X
  raised list v = record { role = v.role; number = v.number; seen = v.seen ++ numbered v.number list; told = v.told; mine = v.mine ++ list; ended = v.ended }

  -- what a new seat knows before it has a number
  abbrev pub note : View X → View X
  note v = record { role = Note; number = 0; seen = v.seen; told = []; mine = []; ended = [] }

  abbrev pub newcomer : ℕ → View X → View X
  newcomer n v = record { role = Idle; number = n; seen = v.seen; told = v.told; mine = v.mine; ended = v.ended }

  -- a seat that another was joined into, before it has compared what both had seen
  abbrev pub joined : View X → View X → View X
  joined v w = record { role = v.role; number = v.number; seen = v.seen; told = w.seen; mine = v.mine; ended = v.ended ++ (w.number, w.mine) ∷ w.ended }

  abbrev pub learned : List (ℕ × X) → View X → View X
  learned list v = record { role = v.role; number = v.number; seen = list; told = []; mine = v.mine; ended = v.ended }

  -- of a list: the entries of this number are those of the seat, and the same of each seat that was joined into it
  pub record Accounts (list : List (ℕ × X)) (v : View X) : Type 0 where
    pub own : of v.number list ≡ v.mine
    pub ended : Every (λ e. of e.0 list ≡ e.1) v.ended
    pub apart : Differ (0 ∷ v.number ∷ numbers v.ended)

  -- what a view has seen begins the list, and has all that the turn was made with
  pub record Sees (log : List (ℕ × X)) (v : View X) : Type 0 where
    pub seen : IsPrefix v.seen log
    pub told : IsPrefix v.told log
    pub opening : of 0 v.seen ≡ of 0 log

  -- what the view at i added is all that carries its number, and it has seen that; so of the seats that were joined into it.
  -- Its numbers differ from each other, and each has this view as its owner, so no other view has one of them
  pub record Owns (log : List (ℕ × X)) (owner : ℕ → ℕ) (i : ℕ) (v : View X) : Type 0 where
    pub own : of (suc i) log ≡ v.mine
    pub own_seen : of (suc i) v.seen ≡ v.mine
    pub ended : Every (λ e. (of e.0 log ≡ e.1) × (owner e.0 ≡ i)) v.ended
    pub apart : Differ (0 ∷ suc i ∷ numbers v.ended)
    pub owner_is : owner (suc i) ≡ i

  -- what is said of all views but spent ones
  abbrev pub SeesAs : Role → List (ℕ × X) → View X → Type 0
  SeesAs Spent log v = Unit {0}
  SeesAs _ log v = Sees log v

  -- a note has no number yet
  abbrev pub OwnsAs : Role → List (ℕ × X) → (ℕ → ℕ) → ℕ → View X → Type 0
  OwnsAs Spent log owner i v = Unit {0}
  OwnsAs Note log owner i v = Owns log owner i v
  OwnsAs _ log owner i v = Owns log owner i v × (v.number ≡ suc i)

  abbrev pub Has : List (View X) → ℕ → Role → Type 0
  Has views i role = (v : View X) × (get_elem? views i ≡ some v) × (v.role ≡ role)

  -- who has the lock is there
  abbrev pub DeskFits : Desk → List (View X) → Type 0
  DeskFits free views = Unit {0}
  DeskFits (held i) views = Has views i Holding
  DeskFits (level i) views = Has views i Level
  DeskFits (vacant i) views = Has views i Vacant
  DeskFits (shut i) views = Has views i Shut

  -- the lock word is free exactly where no view has the lock, and never do two have it
  pub record MutualExclusion (desk : Desk) (words : List ℕ) (views : List (View X)) : Type 0 where
    pub lock : ℕ
    pub count : ℕ
    pub words_are : words ≡ lock ∷ count ∷ []
    pub fits : LockFits desk lock
    pub one_at_most : (i : ℕ) (v : View X) → get_elem? views i ≡ some v → HasAs v.role i desk
    pub there : DeskFits desk views

  -- a view that has seen the whole list, or has it from a seat that was joined into it just now
  abbrev pub KnowsAll : List (ℕ × X) → View X → Type 0
  KnowsAll log v = (v.seen ≡ log) ⊎ (v.told ≡ log)

  -- all that was seen begins one list, which is the longest of it; the count word is its length
  pub record OneList (log : List (ℕ × X)) (words : List ℕ) (views : List (View X)) : Type 0 where
    pub lock : ℕ
    pub words_are : words ≡ lock ∷ length log ∷ []
    pub begins : (i : ℕ) (v : View X) → get_elem? views i ≡ some v → SeesAs v.role log v
    pub longest : (i : ℕ) × (v : View X) × (get_elem? views i ≡ some v) × KnowsAll log v

  -- each number's entries are accounted for at one view, and a number that is not given yet has no entry
  pub record NumbersApart (log : List (ℕ × X)) (owner : ℕ → ℕ) (views : List (View X)) : Type 0 where
    pub accounted : (i : ℕ) (v : View X) → get_elem? views i ≡ some v → OwnsAs v.role log owner i v
    pub fresh : (i : ℕ) → length views ≤ i → (of (suc i) log ≡ []) × (owner (suc i) ≡ i)

  -- a level view has the lock, and has seen the whole list
  abbrev pub LevelSeesAll : Desk → List (ℕ × X) → List (View X) → Type 0
  LevelSeesAll desk log views = (i : ℕ) (v : View X) → get_elem? views i ≡ some v → v.role ≡ Level → (desk ≡ level i) × (v.seen ≡ log)

-- the slot's value stands for the list, and the book beside it counts what was added
pub record Stocked {H T X : Type 0} (stands : T → List X → Type 0) (value : H → Option T) (book : H → ℕ) (log : List (ℕ × X)) (slot : Option H) : Type 0 where
  pub inside : H
  pub is : slot ≡ Some inside
  pub shown : T
  pub shows : value inside ≡ Some shown
  pub stands_for : stands shown (entries log)
  pub counted : book inside ≡ added log

module _ {H : Type 0} where
  -- the value is at home exactly where no view is level, but in a turn that has no value yet or none any more
  abbrev pub HomeUnlessLevel : Desk → List (maybe.Option (Option H)) → Type 0
  HomeUnlessLevel free homes = (h : H) × (homes ≡ some (Some h) ∷ [])
  HomeUnlessLevel (held i) homes = (h : H) × (homes ≡ some (Some h) ∷ [])
  HomeUnlessLevel (level i) homes = homes ≡ none ∷ []
  HomeUnlessLevel (vacant i) homes = homes ≡ some None ∷ []
  HomeUnlessLevel (shut i) homes = homes ≡ some None ∷ []

module _ {H T X : Type 0} (stands : T → List X → Type 0) (value : H → Option T) (book : H → ℕ) where
  -- a value at home stands for the list, and the book beside it counts what seats added
  abbrev pub HomeStands : List (ℕ × X) → List (maybe.Option (Option H)) → Type 0
  HomeStands log homes = (h : H) → homes ≡ some (Some h) ∷ [] → Stocked stands value book log (Some h)

  -- six facts, of one list, of who has the lock, and of the view that accounts for each number
  pub record Kept (s : State (Option H) (View X)) : Type 0 where
    pub log : List (ℕ × X)
    pub desk : Desk
    pub owner : ℕ → ℕ
    pub mutual_exclusion : MutualExclusion desk s.words s.views
    pub one_list : OneList log s.words s.views
    pub home_stands : HomeStands log s.homes
    pub home_unless_level : HomeUnlessLevel desk s.homes
    pub numbers_apart : NumbersApart log owner s.views
    pub level_sees_all : LevelSeesAll desk log s.views

abbrev Sat : Type 0 → Type 0 → Type 0
Sat H X = Me (Option H) (View X)

module _ {H X : Type 0} where
  abbrev pub opens : List X → Step (Option H) → Sat H X → ℕ → Sat H X → Type 0
  opens list st m n w = (w.0 ≡ opened list) × (w.1 ≡ (0, None) ∷ [])

  abbrev pub gives_back : Step (Option H) → Sat H X → ℕ → Sat H X → Type 0
  gives_back st m n w = (w.0 ≡ as_role Idle m.0) × (w.1 ≡ rest m.1)

  abbrev pub tries : Step (Option H) → Sat H X → ℕ → Sat H X → Type 0
  tries st m n w = (n ≡ 0 → w.0 ≡ as_role Holding m.0) × (n ≢ 0 → w.0 ≡ m.0) × (w.1 ≡ m.1)

  abbrev pub raises : List X → Step (Option H) → Sat H X → ℕ → Sat H X → Type 0
  raises list st m n w = (w.0 ≡ raised list m.0) × (w.1 ≡ m.1) × (n ≡ length m.0.seen) × ((i : ℕ) × (m.0.number ≡ suc i))

  abbrev pub shuts : Step (Option H) → Sat H X → ℕ → Sat H X → Type 0
  shuts st m n w = (w.0 ≡ as_role Shut m.0) × (w.1 ≡ rest m.1)

  abbrev pub is_numbered : Step (Option H) → Sat H X → ℕ → Sat H X → Type 0
  is_numbered st m n w = ((number : ℕ) × (w.0 ≡ newcomer number m.0)) × (w.1 ≡ m.1)

  abbrev pub learns : Step (Option H) → Sat H X → ℕ → Sat H X → Type 0
  learns st m n w =
      ((list : List (ℕ × X)) × (w.0 ≡ learned list m.0) × IsPrefix m.0.seen list × IsPrefix m.0.told list × ((list ≡ m.0.seen) ⊎ (list ≡ m.0.told)) × (of 0 list ≡ of 0 m.0.seen))
      × (w.1 ≡ m.1)

module _ {H T X : Type 0} (stands : T → List X → Type 0) (value : H → Option T) (book : H → ℕ) where
  abbrev pub reads : Step (Option H) → Sat H X → ℕ → Sat H X → Type 0
  reads st m n w =
      (list : List (ℕ × X)) × (slot : Option H)
      × (w.0 ≡ read list m.0) × (w.1 ≡ (0, slot) ∷ m.1) × Stocked stands value book list slot
      × IsPrefix m.0.seen list × (of 0 list ≡ of 0 m.0.seen) × Accounts list m.0 × (n ≡ length list)
