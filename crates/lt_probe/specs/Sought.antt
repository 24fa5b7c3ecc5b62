-- A key that is sought.
use Rattle.std.specs.Prelude.{◌≡◌, ℕ, ◌≤◌, false, List, [], ◌∷◌, ◌++◌, length, Some}
use Rattle.lt_rec.specs.Record.{stem_of, time_of}
use Rattle.lt_rec.specs.declared.cut.Cut.{Cut}
use Rattle.lt_rec.specs.declared.raw_box.RawBox.{RawBox}
use Rattle.lt_bloom.specs.Hash.{hash_of}
use Rattle.lt_probe.specs.declared.sought.Sought.{Sought}

abbrev pub cut_before : List ℕ → Cut
cut_before bytes = record { bytes = bytes; after = false }

-- the key's own box: from the key on, up to the least bytes above it, at its own timestamp
abbrev pub key_box : List ℕ → RawBox
key_box key = record { lo = Some (cut_before key); hi = Some (cut_before (key ++ 0 ∷ [])); from = time_of key; to = time_of key }

-- what is known of a key that is long enough to have a timestamp
pub record IsSought (key : List ℕ) (s : Sought) : Type 0 where
  pub cut : s.cut ≡ cut_before key
  pub raw_box : 8 ≤ length key → s.raw_box ≡ key_box key
  pub hash : 8 ≤ length key → s.hash ≡ hash_of (stem_of key)
