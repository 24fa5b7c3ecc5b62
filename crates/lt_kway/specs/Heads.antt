-- The first records of several sorted sources, of which the next one in the order of reading is taken.
use Rattle.std.specs.Prelude.{◌≡◌, ◌≢◌, Bool, true, ℕ, List, if◌then◌else◌}
use Rattle.std.specs.List.{All, AllPairs, Any}
use Rattle.lt_rec.specs.Bytes.{is_less}
use Rattle.lt_kway.specs.declared.head.Head.{Head}
use Rattle.lt_kway.specs.declared.head.HeadError.{HeadError}
use Rattle.lt_kway.specs.declared.head.HeadError.TheVariants.{Clash, NoMemory}

-- the heads that are held, and the direction of reading
pub record Held : Type 0 where
  pub down : Bool
  pub heads : List Head

-- the key a is read before b: it is the less, or the greater where reading goes down
abbrev pub is_before : Bool → List ℕ → List ℕ → Bool
is_before down a b = if down then is_less b a else is_less a b

-- each head is read before all that stand ahead of it in the list; so no two have the same key
abbrev pub AreRanked : Bool → List Head → Type 0
AreRanked down heads = AllPairs (λ early late. is_before down late.rec.key early.rec.key ≡ true) heads

-- no head has the key
abbrev pub NoneHas : List Head → List ℕ → Type 0
NoneHas heads key = All (λ head. head.rec.key ≢ key) heads

-- a head of this source has the key
abbrev pub HasFrom : List Head → List ℕ → ℕ → Type 0
HasFrom heads key source = Any (λ head. (head.source ≡ source) × (head.rec.key ≡ key)) heads

-- what each refusal says of the heads and the key that was put
abbrev pub Refuses : List Head → List ℕ → HeadError → Type 0
Refuses heads key (Clash source) = HasFrom heads key source
Refuses heads key NoMemory = NoneHas heads key
