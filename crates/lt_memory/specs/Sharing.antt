-- Tablets that are handed out, and those that are left.
use Rattle.std.specs.Prelude.{ℕ, ◌≡◌, ◌≤◌, Bool, true, not, if◌then◌else◌, List, [], map, filter, max, Option, Some, None, Contains, IfSome, IfNone}
use Rattle.lt_rec.specs.Closure.{has}
use Rattle.lt_rec.specs.Periods.{Stretch}
use Rattle.lt_rec.specs.Record.{Record}
use Rattle.lt_state.specs.State.{Filled}
use Rattle.lt_state.specs.Flushes.{Goes}

-- a tablet's number, its period and its records
pub record Share : Type 0 where
  pub tablet : ℕ
  pub period : Stretch
  pub recs : List Record

abbrev pub share_of : Filled → Share
share_of t = record { tablet = t.number; period = t.period; recs = t.recs }

-- the tablet is one of these
abbrev pub is_part : List ℕ → Filled → Bool
is_part parts t = has parts t.number

-- it takes no more rows, if it is one of these
abbrev pub frozen_in : List ℕ → Filled → Filled
frozen_in parts t = if is_part parts t then record t { frozen = true } else t

abbrev pub frozen_among : List ℕ → List Filled → List Filled
frozen_among parts tablets = map (frozen_in parts) tablets

-- the shares of these tablets
abbrev pub shares_among : List ℕ → List Filled → List Share
shares_among parts tablets = map share_of (filter (is_part parts) tablets)

-- all but these
abbrev pub left_by : List ℕ → List Filled → List Filled
left_by parts tablets = filter (λ t. not (is_part parts t)) tablets

-- the greatest number of these records
pub record HasLast (recs : List Record) (last : ℕ) : Type 0 where
  pub rec : Record
  pub among : Contains recs rec
  pub is : rec.seq ≡ last
  pub above : (other : Record) → Contains recs other → other.seq ≤ last

-- the greater of two numbers, where there are two
abbrev pub greater_of : Option ℕ → Option ℕ → Option ℕ
greater_of None other = other
greater_of (Some one) None = Some one
greater_of (Some one) (Some other) = Some (max one other)

-- the greatest number of a record in these tablets
pub record IsTop (tablets : List Filled) (parts : List ℕ) (top : ℕ) : Type 0 where
  pub rec : Record
  pub goes : Goes tablets parts rec
  pub is : rec.seq ≡ top
  pub above : (other : Record) → Goes tablets parts other → other.seq ≤ top

-- the greatest number of a record in these tablets, where they have any
pub record TopOf (tablets : List Filled) (parts : List ℕ) (found : Option ℕ) : Type 0 where
  pub top : IfSome found (IsTop tablets parts)
  pub none : IfNone found ((tablet : Filled) → Contains tablets tablet → is_part parts tablet ≡ true → tablet.recs ≡ [])
