-- The checks of a file, put together as they are made.
use Rattle.std.specs.Prelude.{◌≡◌, ℕ, ◌-◌, ◌<◌, ◌≤◌, List, length, drop, Result, Ok, slice_index}
use Rattle.lt_rec.specs.Records.{joined}
use Rattle.lt_bloom.specs.Filter.{filter_bytes}
use Rattle.lt_rec.specs.Reading.{◌>>=◌}
use Rattle.lt_layout.specs.Spelling.{Entry, Totals, Parts}
use Rattle.lt_layout.specs.Reading.{footer_place, footer_at, header_at, blocks_at, totals_at, filter_at, between}
use Rattle.lt_layout.specs.Surveying.{Found, found_in}

-- where the parts of a file may lie whose footer begins at `foot`
pub record Lie (foot : ℕ) (p : Parts) : Type 0 where
  pub behind_header : 8 < p.index
  pub index_within : p.index ≤ foot
  pub some : 0 < p.blocks
  pub behind_index : p.index < p.filter
  pub filter_within : p.filter ≤ foot
  pub filter_len : p.filter_len ≡ foot - p.filter

-- the numbers from one offset up to another are bytes
abbrev pub AreBytes : (from to : ℕ) → List ℕ → Type 0
AreBytes from to bytes = (i : ℕ) → from ≤ i → i < to → slice_index bytes i < 256

-- the first three: where the footer begins, and what it tells
unfoldable pub ends_at : Totals → ℕ → List ℕ → Result (ℕ × Parts) ℕ
ends_at t listed bytes = do
  foot ← footer_place listed (length bytes)
  p ← footer_at t foot (drop foot bytes)
  headed ← header_at bytes
  Ok (foot, p)

-- the fifth: what is found of the records of all blocks
abbrev pub surveyed : Totals → List Entry → List ℕ → Result Found ℕ
surveyed t es bytes = blocks_at t es (drop 8 bytes) >>= λ blocks. Ok (found_in (joined blocks))

-- the last two: the filter of what was found
abbrev pub filter_found : Totals → ℕ → Parts → Found → List ℕ → Result (List ℕ) ℕ
filter_found t foot p found bytes =
    totals_at foot t found.totals >>= λ _. filter_at foot p (between p.filter foot bytes) (filter_bytes found.hashes) >>= λ _. Ok (filter_bytes found.hashes)
