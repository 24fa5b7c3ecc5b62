use Rattle.std.proofs.Common.{Contains, [], Some, subst, sym}
use Rattle.std.proofs.lemmas.List.Elements.{Contains-push}
use Rattle.lt_commit.proofs.Empty.{begun_none, begun_published, all_empty}
use Rattle.lt_commit.proofs.anchor.Anchor.publish_empty.Goals as goal

pub returns-then-file-ge-MOST-clause-any_moment : goal.returns-then-file-ge-MOST-clause-any_moment
returns-then-file-ge-MOST-clause-any_moment g c = λ h. begun_none _ _ _

pub returns-in_err-stone-clause-any_moment : goal.returns-in_err-stone-clause-any_moment
returns-in_err-stone-clause-any_moment g c = λ h. begun_none _ _ _

pub returns-in_err-publish-clause-any_moment : goal.returns-in_err-publish-clause-any_moment
returns-in_err-publish-clause-any_moment g c = λ h.
    begun_published _ _ _ _ _ _ c.requires.unlent c.in_ok-stone.ensures.empty (c.publish.ensures.readable h) (c.publish.ensures.any_moment h)

pub returns-clause-any_moment : goal.returns-clause-any_moment
returns-clause-any_moment g c = λ h.
    begun_published _ _ _ _ _ _ c.requires.unlent c.in_ok-stone.ensures.empty (c.publish.ensures.readable h) (c.publish.ensures.any_moment h)

pub returns-clause-acknowledged : goal.returns-clause-acknowledged
returns-clause-acknowledged g c = λ h.
    let possible : Contains c.publish.new.self.may (Some c.in_ok-stone.stone) = subst (λ l. Contains l (Some c.in_ok-stone.stone)) (sym c.in_ok-publish.ensures.ok) (Contains-push [] (Some c.in_ok-stone.stone)) in
    all_empty _ _ c.args.self.now.directory.now _ c.args.file c.in_ok-stone.stone c.in_ok-stone.ensures.empty (c.in_ok-publish.ensures.anchored.readable c.in_ok-stone.stone possible) (c.in_ok-publish.ensures.acknowledged h)
