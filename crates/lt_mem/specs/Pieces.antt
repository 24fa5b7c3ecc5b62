-- Rising records in pieces.
use Rattle.std.specs.Prelude.{◌≡◌, ℕ, ◌+◌, ◌<◌, ◌≤◌, ◌⊎◌, Bool, true, false, ◌&&◌, nat_le, List, [], ◌∷◌, length, take, slice_index_or}
use Rattle.std.specs.List.{All}
use Rattle.lt_rec.specs.Bytes.{is_less}
use Rattle.lt_rec.specs.Record.{Record}
use Rattle.lt_rec.specs.Records.{joined}
use Rattle.lt_rec.specs.Boxes.{is_below, meets_lo, meets_hi}
use Rattle.lt_rec.specs.declared.cut.Cut.{Cut}
use Rattle.lt_rec.specs.declared.raw_box.RawBox.{RawBox}
use Rattle.lt_mem.specs.Rising.{IsRising}
use Rattle.lt_mem.specs.Lead.{IsLead, AreLeads}

abbrev pub first_key : List Record → List ℕ
first_key [] = []
first_key (r ∷ rs) = r.key

-- the key a is b or comes before it
abbrev pub IsUpTo : List ℕ → List ℕ → Type 0
IsUpTo a b = (is_less a b ≡ true) ⊎ (a ≡ b)

abbrev pub NoneIsEmpty : List (List Record) → Type 0
NoneIsEmpty ps = All (λ p. 0 < length p) ps

-- each piece has a record, and the records of all of them rise
pub record AreLined (ps : List (List Record)) : Type 0 where
  pub some : NoneIsEmpty ps
  pub rising : IsRising (joined ps)

abbrev pub piece_at : List (List Record) → ℕ → List Record
piece_at ps at = slice_index_or ps at []

-- where the place of a piece stands among all records
abbrev pub place_of : List (List Record) → ℕ → ℕ → ℕ
place_of ps at place = length (joined (take at ps)) + place

-- all records before the place come before the key, and all from it on come after it
pub record IsGap (ps : List (List Record)) (key : List ℕ) (at place : ℕ) : Type 0 where
  pub held : at < length ps
  pub within : place ≤ length (piece_at ps at)
  pub before : (k : ℕ) (d : Record) → k < place_of ps at place → is_less (slice_index_or (joined ps) k d).key key ≡ true
  pub after : (k : ℕ) (d : Record) → place_of ps at place ≤ k → k < length (joined ps) → is_less key (slice_index_or (joined ps) k d).key ≡ true

pub record IsFound (ps : List (List Record)) (key : List ℕ) (at place : ℕ) : Type 0 where
  pub held : at < length ps
  pub within : place < length (piece_at ps at)
  pub same : (d : Record) → (slice_index_or (piece_at ps at) place d).key ≡ key

abbrev pub EachRises : List (List Record) → Type 0
EachRises ps = (k : ℕ) → k < length ps → IsRising (piece_at ps k)

-- the timestamps of all records lie between these
abbrev pub AreWithin : List Record → ℕ → ℕ → Type 0
AreWithin recs low high = All (λ r. (low ≤ r.ts) × (r.ts ≤ high)) recs

-- what is kept beside the records of a piece: the leads of its keys, the first of them apart, and two timestamps that all lie
-- between
pub record IsSummed (recs : List Record) (lead : ℕ) (leads : List ℕ) (low high : ℕ) : Type 0 where
  pub first : IsLead (first_key recs) lead
  pub all : AreLeads recs leads
  pub times : AreWithin recs low high

-- the record's timestamp is one of the box's times
abbrev pub has_time : RawBox → Record → Bool
has_time raw_box r = nat_le raw_box.from r.ts && nat_le r.ts raw_box.to

abbrev pub AllHaveTime : RawBox → List Record → Type 0
AllHaveTime raw_box recs = All (λ r. has_time raw_box r ≡ true) recs

abbrev pub NoneHasTime : RawBox → List Record → Type 0
NoneHasTime raw_box recs = All (λ r. has_time raw_box r ≡ false) recs

-- the keys of all records, or of none, lie below the cut
abbrev pub AllBelow : Cut → List Record → Type 0
AllBelow cut recs = All (λ r. is_below cut r.key ≡ true) recs

abbrev pub NoneBelow : Cut → List Record → Type 0
NoneBelow cut recs = All (λ r. is_below cut r.key ≡ false) recs

-- the keys of all records, or of none, meet a bound of the box
abbrev pub AllMeetLo : RawBox → List Record → Type 0
AllMeetLo raw_box recs = All (λ r. meets_lo raw_box.lo r.key ≡ true) recs

abbrev pub NoneMeetsLo : RawBox → List Record → Type 0
NoneMeetsLo raw_box recs = All (λ r. meets_lo raw_box.lo r.key ≡ false) recs

abbrev pub AllMeetHi : RawBox → List Record → Type 0
AllMeetHi raw_box recs = All (λ r. meets_hi raw_box.hi r.key ≡ true) recs

abbrev pub NoneMeetsHi : RawBox → List Record → Type 0
NoneMeetsHi raw_box recs = All (λ r. meets_hi raw_box.hi r.key ≡ false) recs
