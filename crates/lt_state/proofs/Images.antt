-- What possible images open to.
use Rattle.std.proofs.Common.{◌≡◌, ℕ, List, map, Option, Some, None, Contains, refl, sym, subst}
use Rattle.lt_desc.specs.Shape.{StoneShape}
use Rattle.lt_desc.specs.Spelling.{spelling}
use Rattle.lt_commit.specs.Anchored.{spelled}
use Rattle.lt_trace.proofs.Images.{backed_opens}
use Rattle.lt_trace.proofs.Lists.{Origin, origin}
use Rattle.lt_state.specs.Laws.{PresentOpens}

-- a possible descriptor is that of a possible stone
pub record ByStone (may : List (Option StoneShape)) (descriptor : Option (List ℕ)) : Type 0 where
  pub stone : StoneShape
  pub among : Contains may (Some stone)
  pub is : descriptor ≡ Some (spelling stone)

of_some : (may : List (Option StoneShape)) (o : Option StoneShape) (descriptor : Option (List ℕ)) → (Contains may None → ⊥) → Contains may o → spelled o ≡ descriptor → ByStone may descriptor
of_some may None descriptor some among same = absurd (some among)
of_some may (Some stone) descriptor some among same = record { stone = stone; among = among; is = sym same }

pub by_stone : (may : List (Option StoneShape)) (all : List (Option (List ℕ))) (descriptor : Option (List ℕ)) → (Contains may None → ⊥) → all ≡ map spelled may → Contains all descriptor → ByStone may descriptor
by_stone may all descriptor some possible among =
    let o : Origin spelled may descriptor = origin spelled may descriptor (subst (λ (ds : List (Option (List ℕ))). Contains ds descriptor) possible among) in
    of_some may o.from descriptor some o.among o.same

pub present_opens : PresentOpens
present_opens h recs anchor tablets memory image legal anchored facts some fits =
    let by : ByStone anchor.may image.descriptor = by_stone anchor.may anchor.directory.now.may image.descriptor some (anchored.possible refl) fits.descriptor in
    backed_opens h recs anchor.directory.now image by.stone legal (record { whole = facts.entered refl by.stone by.among; holds = facts.rows refl by.stone by.among; given = (facts.settled by.stone by.among).given }) fits by.is
