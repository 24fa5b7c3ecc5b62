-- Which tablets go out.
use Rattle.std.specs.Prelude.{ℕ, ◌≡◌, ◌+◌, Bool, true, false, ◌||◌, nat_le, List, [], ◌∷◌, map, filter, ⊤}
use Rattle.lt_rec.specs.Closure.{has}
use Rattle.lt_state.specs.State.{Filled}
use Rattle.lt_memory.specs.declared.going.FreezeWhat.{FreezeWhat}
use Rattle.lt_memory.specs.declared.going.FreezeWhat.TheVariants.{All, One, Due}
use Rattle.lt_memory.specs.declared.going.FreezeRefusal.{FreezeRefusal}
use Rattle.lt_memory.specs.declared.going.FreezeRefusal.TheVariants.{NoTablet, NoMemory}
use Rattle.lt_memory.specs.Waiting.{numbers_of, is_due}

-- the tablets that are named: all of them; the one; those that are due
abbrev pub named : FreezeWhat → List Filled → List ℕ
named All tablets = numbers_of tablets
named (One id) tablets = id ∷ []
named (Due now) tablets = numbers_of (filter (is_due now) tablets)

-- no tablet has the number that is named
pub record IsUnknown (what : FreezeWhat) (tablets : List Filled) (id : ℕ) : Type 0 where
  pub asked : what ≡ One id
  pub none : has (numbers_of tablets) id ≡ false

-- why there is no answer
abbrev pub IsCause : FreezeWhat → List Filled → FreezeRefusal → Type 0
IsCause what tablets (NoTablet id) = IsUnknown what tablets id
IsCause what tablets NoMemory = ⊤
