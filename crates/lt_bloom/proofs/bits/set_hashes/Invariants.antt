use Rattle.std.proofs.Common.{◌≡◌, ℕ, ◌<◌, take, get_or}
use Rattle.std.specs.List.{list_any}
use Rattle.lt_bloom.specs.Filter.{is_set, is_place}
use Rattle.lt_bloom.proofs.bits.set_hashes.Given as goal

abbrev pub invariant-loop-hash : goal.invariant-loop-hash
invariant-loop-hash l =
    ((i : ℕ) → get_or l.bytes i 0 < 256)
    × ((p : ℕ) → is_set l.bytes p ≡ list_any (λ h. is_place l.bits h p) (take l.hash-index l.hashes))
