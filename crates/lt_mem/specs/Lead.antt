-- The first bytes of a key as one number, which is compared before keys are.
use Rattle.std.specs.Prelude.{◌≡◌, ℕ, zero, suc, ◌+◌, ◌*◌, ◌^◌, ◌<◌, List, [], ◌∷◌, length, slice_index_or}
use Rattle.std.specs.List.{All}
use Rattle.lt_rec.specs.Record.{Record}

-- the first n bytes as the digits of a number, the highest first; where the key has ended they are 0
unfoldable pub lead_of : ℕ → List ℕ → ℕ
lead_of zero key = 0
lead_of (suc n) [] = 0
lead_of (suc n) (b ∷ bs) = b * 256 ^ n + lead_of n bs

-- the number is that of the key's first sixteen bytes
pub record IsLead (key : List ℕ) (lead : ℕ) : Type 0 where
  pub value : lead ≡ lead_of 16 key
  pub bytes : All (λ b. b < 256) key

-- the leads of the records' keys, one by one
pub record AreLeads (recs : List Record) (leads : List ℕ) : Type 0 where
  pub count : length leads ≡ length recs
  pub each : (k : ℕ) (d : Record) → k < length recs → IsLead (slice_index_or recs k d).key (slice_index_or leads k 0)
