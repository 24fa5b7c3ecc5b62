-- A key among the records of tablets.
use Rattle.std.specs.Prelude.{◌≡◌, ◌≢◌, ℕ, Bool, not, ◌&&◌, List, nat_le}
use Rattle.std.specs.List.{All, Any, list_any}
use Rattle.lt_rec.specs.Bytes.{is_less}
use Rattle.lt_rec.specs.Record.{Record, stem_of, time_of}
use Rattle.lt_bloom.specs.Hash.{hash_of}
use Rattle.lt_bloom.specs.Filter.{admits}
use Rattle.lt_layout.specs.Spelling.{Entry}
use Rattle.lt_tablet.specs.Loaded.{Loaded}

-- a record of this number has the key
abbrev pub HasNumber : List Record → List ℕ → ℕ → Type 0
HasNumber recs key seq = Any (λ r. (r.seq ≡ seq) × (r.key ≡ key)) recs

-- no record has the key
abbrev pub NoneHas : List Record → List ℕ → Type 0
NoneHas recs key = All (λ r. r.key ≢ key) recs

-- the key isn't below the block's first one, nor above its last
abbrev pub is_spanned : List ℕ → Entry → Bool
is_spanned key e = not (is_less key e.first) && not (is_less e.last key)

-- the tablet's span of timestamps, its filter and its index all admit the key
abbrev pub may_have_key : List ℕ → Loaded → Bool
may_have_key key t = ((nat_le t.listed.low (time_of key) && nat_le (time_of key) t.listed.high) && admits t.filter (hash_of (stem_of key))) && list_any (is_spanned key) t.index
