-- Which neighbours in the list of tablets are to be merged.
use Rattle.std.specs.Prelude.{◌≡◌, ℕ, ◌+◌, ◌*◌, ◌<◌, ◌≤◌, List, [], ◌∷◌, length, take, drop, All, sum_by}
use Rattle.lt_rec.specs.Periods.{Stretch}
use Rattle.lt_period.specs.Moments.{period_at}
use Rattle.lt_plan.specs.declared.tablets.Weigh.{Weigh}
use Rattle.lt_plan.specs.declared.tablets.Run.{Run}

-- the most bytes that are merged at once
abbrev pub most_bytes : ℕ
most_bytes = 134217728

abbrev pub bytes_of : List Weigh → ℕ
bytes_of ws = sum_by (λ w. w.bytes) ws

-- the tablet's home at the moment: one period that has both its least and its greatest timestamp
pub record IsAtHome (now : ℕ) (home : Stretch) (w : Weigh) : Type 0 where
  pub low : period_at w.low now ≡ home
  pub high : period_at w.high now ≡ home

-- a run may begin with these neighbours: they share a home, and the first isn't above twice the second
pub record MayBegin (now : ℕ) (a b : Weigh) : Type 0 where
  pub home : Stretch
  pub first_at_home : IsAtHome now home a
  pub second_at_home : IsAtHome now home b
  pub halved : a.bytes ≤ 2 * b.bytes
  pub within : a.bytes + b.bytes ≤ most_bytes

-- a run may begin with the first two of these
abbrev pub BeginsARun : ℕ → List Weigh → Type 0
BeginsARun now [] = ⊥
BeginsARun now (a ∷ []) = ⊥
BeginsARun now (a ∷ (b ∷ ws)) = MayBegin now a b

-- no run may begin anywhere in the list
abbrev pub HasNoRun : ℕ → List Weigh → Type 0
HasNoRun now list = (i : ℕ) → ¬ BeginsARun now (drop i list)

-- the first of these has that home, and goes with so many bytes
abbrev pub GoesOn : ℕ → Stretch → ℕ → List Weigh → Type 0
GoesOn now home bytes [] = ⊥
GoesOn now home bytes (w ∷ ws) = IsAtHome now home w × (bytes + w.bytes ≤ most_bytes)

-- the tablets of one home from a place on, as many as go together
pub record IsLongest (now : ℕ) (home : Stretch) (list : List Weigh) (count : ℕ) : Type 0 where
  pub inside : count ≤ length list
  pub at_home : All (IsAtHome now home) (take count list)
  pub within : bytes_of (take count list) ≤ most_bytes
  pub ended : ¬ GoesOn now home (bytes_of (take count list)) (drop count list)

-- the run begins at the least place at which one may, and goes on while the next tablet has the home and the sum allows it
pub record IsRun (now : ℕ) (list : List Weigh) (run : Run) : Type 0 where
  pub begins : BeginsARun now (drop run.first list)
  pub least : (i : ℕ) → i < run.first → ¬ BeginsARun now (drop i list)
  pub home : Stretch
  pub longest : IsLongest now home (drop run.first list) run.count
  pub more_than_one : 2 ≤ run.count

abbrev pub first_bytes : List Weigh → ℕ
first_bytes [] = 0
first_bytes (w ∷ ws) = w.bytes

-- tablets of one home, none empty, that could be merged by their sum
pub record GoTogether (now : ℕ) (ws : List Weigh) : Type 0 where
  pub home : Stretch
  pub at_home : All (IsAtHome now home) ws
  pub none_empty : All (λ w. 1 ≤ w.bytes) ws
  pub within : bytes_of ws ≤ most_bytes
