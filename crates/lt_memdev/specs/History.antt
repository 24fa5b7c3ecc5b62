-- The states that a directory went through, as a log of changes stands for them.
use Rattle.std.specs.Prelude.{◌≡◌, ◌≤◌, ◌<◌, ◌+◌, ◌^◌, ℕ, ⊤, length, List, [], ◌∷◌, ◌++◌, Option, Some}
use Rattle.lt_io.specs.Directory.{State, Contents, file_at, entered, loosened, pointed, settled, raised}
use Rattle.lt_memdev.specs.declared.change.Change.{Change}
use Rattle.lt_memdev.specs.declared.change.Change.TheVariants.{Entered, Loosened, Joined, Settled, Nothing}
use Rattle.lt_memdev.specs.declared.change.Moment.{Moment}

-- the states of the past moments and the present one, and for how many moments more there is room
pub record Course : Type 0 where
  pub past : List State
  pub now : State
  pub room : ℕ

-- the state after a change
abbrev pub after : Change → State → State
after (Entered file bytes) state = entered state file bytes
after (Loosened file) state = loosened state file
after (Joined bytes) state = pointed state bytes
after (Settled descriptor) state = settled state descriptor
after Nothing state = state

-- a file that a change enters is below the ceiling
abbrev pub IsLent : Change → ℕ → Type 0
IsLent (Entered file bytes) ceiling = file < ceiling
IsLent (Loosened file) ceiling = ⊤
IsLent (Joined bytes) ceiling = ⊤
IsLent (Settled descriptor) ceiling = ⊤
IsLent Nothing ceiling = ⊤

-- the state that stands at first, but for its ceiling
abbrev pub started : Contents → Option (List ℕ) → State
started files descriptor = record { files = files; may = descriptor ∷ []; ceiling = 0 }

-- the states before each moment of the log, with the ceilings that stood at their ends
abbrev pub past_of : State → List Moment → List State
past_of state [] = []
past_of state (moment ∷ log) = raised state moment.ceiling ∷ past_of (after moment.change state) log

-- the state after the whole log, but for the ceiling
abbrev pub last_of : State → List Moment → State
last_of state [] = state
last_of state (moment ∷ log) = last_of (after moment.change state) log

-- each file that stands is below the ceiling, which is at most 2 ^ 62
pub record IsBelow (state : State) : Type 0 where
  pub each : (number : ℕ) (bytes : List ℕ) → file_at state.files number ≡ Some bytes → number < state.ceiling
  pub in_range : state.ceiling ≤ 2 ^ 62

-- so in each of the states
abbrev pub AllBelow : List State → Type 0
AllBelow [] = Unit {0}
AllBelow (state ∷ states) = IsBelow state × AllBelow states

-- files and possible descriptors are those of the state
pub record Shows (held : Contents) (possible : List (Option (List ℕ))) (state : State) : Type 0 where
  pub files : (number : ℕ) → file_at held number ≡ file_at state.files number
  pub may : possible ≡ state.may

-- what holds of the state of a moment with that number
pub record IsLawful (at : ℕ) (state : State) : Type 0 where
  pub below : IsBelow state
  pub some : 0 < length state.may
  pub few : length state.may ≤ at + 1

-- the states of all moments; the present one is last
abbrev pub states_of : Course → List State
states_of course = course.past ++ course.now ∷ []
