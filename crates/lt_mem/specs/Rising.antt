-- Records in the order of their keys, all different.
use Rattle.std.specs.Prelude.{◌≡◌, ◌≢◌, ℕ, ◌≤◌, Bool, true, if◌then◌else◌, reverse, List, [], Option, Some, None, MatchOption, length, min, max}
use Rattle.std.specs.List.{All, AllPairs, Any, insert, sum_by}
use Rattle.lt_rec.specs.Bytes.{is_less}
use Rattle.lt_rec.specs.Record.{Record, stored_len}
use Rattle.lt_mem.specs.declared.add_error.AddError.{AddError}
use Rattle.lt_mem.specs.declared.add_error.AddError.TheVariants.{Present, NoMemory}

-- each key is below all later ones
abbrev pub IsRising : List Record → Type 0
IsRising recs = AllPairs (λ early late. is_less early.key late.key ≡ true) recs

-- no record has the key
abbrev pub NoneHas : List Record → List ℕ → Type 0
NoneHas recs key = All (λ r. r.key ≢ key) recs

-- a record of this number has the key
abbrev pub HasNumber : List Record → List ℕ → ℕ → Type 0
HasNumber recs key seq = Any (λ r. (r.seq ≡ seq) × (r.key ≡ key)) recs

-- the new list is the old one with the record among its others
abbrev pub Gains : List Record → List Record → Record → Type 0
Gains old new rec = (place : ℕ) × (place ≤ length old) × (new ≡ insert old place rec)

-- what each refusal says of the records and the key that was added
abbrev pub Refuses : List Record → List ℕ → AddError → Type 0
Refuses recs key (Present seq) = HasNumber recs key seq
Refuses recs key NoMemory = NoneHas recs key

-- the bytes that the records take where they are stored
abbrev pub all_stored : List Record → ℕ
all_stored recs = sum_by stored_len recs

-- the least and the greatest of a number of each record
pub record IsSpan (of : Record → ℕ) (recs : List Record) (low high : ℕ) : Type 0 where
  pub above : All (λ r. low ≤ of r) recs
  pub below : All (λ r. of r ≤ high) recs
  pub low_is : Any (λ r. of r ≡ low) recs
  pub high_is : Any (λ r. of r ≡ high) recs

-- None where there is no record, and else the least and the greatest
abbrev pub SpansOf : (Record → ℕ) → List Record → Option (ℕ × ℕ) → Type 0
SpansOf of recs found = MatchOption found (recs ≡ []) (λ p. IsSpan of recs p.0 p.1)

-- with one number more
abbrev pub widened_by : Option (ℕ × ℕ) → ℕ → Option (ℕ × ℕ)
widened_by None n = Some (n, n)
widened_by (Some p) n = Some (min p.0 n, max p.1 n)

-- what is kept beside the records
pub record IsKept (recs : List Record) (numbers times : Option (ℕ × ℕ)) (size : ℕ) : Type 0 where
  pub rising : IsRising recs
  pub seqs : SpansOf (λ r. r.seq) recs numbers
  pub span : SpansOf (λ r. r.ts) recs times
  pub bytes : size ≡ all_stored recs

-- each key is read before all later ones: it is the less or, where reading goes down, the greater
abbrev pub IsInOrder : Bool → List Record → Type 0
IsInOrder down recs = AllPairs (λ early late. (if down then is_less late.key early.key else is_less early.key late.key) ≡ true) recs

-- in the order of reading
abbrev pub in_order : Bool → List Record → List Record
in_order down recs = if down then reverse recs else recs
