-- A prefix that is asked for.
use Rattle.std.specs.Prelude.{◌≡◌, ℕ, ◌-◌, ◌^◌, Bool, true, false, List, Option, Some, None, if◌then◌else◌}
use Rattle.lt_rec.specs.declared.cut.Cut.{Cut}
use Rattle.lt_rec.specs.declared.raw_box.RawBox.{RawBox}
use Rattle.lt_bloom.specs.Filter.{admits}
use Rattle.lt_bloom.specs.Hash.{hash_of}
use Rattle.lt_probe.specs.Sought.{cut_before}

-- the prefix, whether it is a whole stem, and the timestamp from which on it is asked for
pub record Question : Type 0 where
  pub prefix : List ℕ
  pub whole : Bool
  pub since : ℕ

abbrev pub cut_behind : List ℕ → Cut
cut_behind bytes = record { bytes = bytes; after = true }

-- the keys that begin with the prefix, from this timestamp on
abbrev pub prefix_box : List ℕ → ℕ → RawBox
prefix_box prefix since = record { lo = Some (cut_before prefix); hi = Some (cut_behind prefix); from = since; to = 2 ^ 64 - 1 }

-- the hash that filters are asked for, only where the prefix is a whole stem
abbrev pub hash_if : List ℕ → Bool → Option ℕ
hash_if prefix whole = if whole then Some (hash_of prefix) else None

abbrev pub is_some : Option ℕ → Bool
is_some None = false
is_some (Some hash) = true

-- what is kept of a question
pub record IsAsked (q : Question) (lo hi : Cut) (raw_box : RawBox) (hash : Option ℕ) : Type 0 where
  pub lo_is : lo ≡ cut_before q.prefix
  pub hi_is : hi ≡ cut_behind q.prefix
  pub raw_box_is : raw_box ≡ prefix_box q.prefix q.since
  pub hash_is : hash ≡ hash_if q.prefix q.whole

-- the filter isn't asked, or admits the prefix
abbrev pub admits_question : Question → List ℕ → Bool
admits_question q filter = if q.whole then admits filter (hash_of q.prefix) else true
