use Rattle.std.proofs.Common.{ap, subst, sym}
use Rattle.lt_commit.specs.Anchored.{NothingNew}
use Rattle.lt_commit.proofs.Pictures.{nothing_new}
use Rattle.lt_commit.proofs.anchor.Anchor.load.Goals as goal

pub returns-in-Ok-clause-images : goal.returns-in-Ok-clause-images
returns-in-Ok-clause-images g c = λ h.
    subst (NothingNew (g.V.Device.directory c.args.dir)) (ap (λ a. a.directory) (sym c.holding.ensures)) (nothing_new _ _ (c.find_stone.ensures.any_moment h))

pub returns-in-Err-clause-images : goal.returns-in-Err-clause-images
returns-in-Err-clause-images g c = λ h. nothing_new _ _ (c.find_stone.ensures.any_moment h)
