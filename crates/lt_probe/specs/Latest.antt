-- The latest record of a prefix.
use Rattle.std.specs.Prelude.{◌≡◌, ◌⊎◌, ℕ, ◌<◌, Bool, true, false, ◌&&◌, List, map, Option, Some, None, IfSome, Contains, nat_le}
use Rattle.std.specs.List.{All}
use Rattle.lt_rec.specs.Bytes.{is_less, begins_with}
use Rattle.lt_rec.specs.Record.{Record, stem_of}
use Rattle.lt_rec.specs.Records.{joined}
use Rattle.lt_tablet.specs.Loaded.{Loaded, records_in}

-- the records of all tablets
abbrev pub records_of : List Loaded → List Record
records_of tablets = joined (map records_in tablets)

-- the record's key begins with the prefix, and its timestamp is at least this
abbrev pub is_asked : List ℕ → ℕ → Record → Bool
is_asked prefix since r = begins_with r.key prefix && nat_le since r.ts

-- by timestamps, and by keys where these are the same, the first record isn't after the second
abbrev pub IsUpTo : Record → Record → Type 0
IsUpTo a b = (a.ts < b.ts) ⊎ ((a.ts ≡ b.ts) × (is_less b.key a.key ≡ false))

-- something was found, and the record isn't after it
abbrev pub IsCovered : Option Record → Record → Type 0
IsCovered None r = ⊥
IsCovered (Some found) r = IsUpTo r found

-- The latest of a record that is known, if there is one, and of these records, as far as they are asked for; none where
-- there is none.
pub record IsLatest (recs : List Record) (prefix : List ℕ) (since : ℕ) (best found : Option Record) : Type 0 where
  pub one : IfSome found (λ f. (best ≡ Some f) ⊎ (Contains recs f × (is_asked prefix since f ≡ true)))
  pub over_best : IfSome best (IsCovered found)
  pub over_all : All (λ r. is_asked prefix since r ≡ true → IsCovered found r) recs

-- the prefix is the whole stem of each key that begins with it
abbrev pub IsWholeIn : List Record → List ℕ → Type 0
IsWholeIn recs prefix = All (λ r. begins_with r.key prefix ≡ true → stem_of r.key ≡ prefix) recs
