use Rattle.std.proofs.Common.{subst, sym}
use Rattle.lt_io.specs.Steps.{Steps}
use Rattle.lt_commit.specs.Begun.{Begins, NoneOrEmpty}
use Rattle.lt_commit.proofs.Empty.{begun_narrows, begun_join, none_or_empty}
use Rattle.lt_commit.proofs.anchor.Anchor.create.Goals as goal

pub returns-in-Err-clause-any_moment : goal.returns-in-Err-clause-any_moment
returns-in-Err-clause-any_moment g c = λ h. begun_narrows _ _ _ _ (c.in-Err.ensures.any_moment h)

pub returns-in-Err-clause-images : goal.returns-in-Err-clause-images
returns-in-Err-clause-images g c = λ h none. none_or_empty _ _ _ _ none (begun_narrows _ _ _ _ (c.in-Err.ensures.any_moment h))

pub returns-in-Ok-publish_empty-clause-any_moment : goal.returns-in-Ok-publish_empty-clause-any_moment
returns-in-Ok-publish_empty-clause-any_moment g c = λ h.
    begun_join _ _ _ _ _ (begun_narrows _ _ _ _ (c.in-Ok.ensures.any_moment h)) (c.publish_empty.ensures.any_moment h)

pub returns-in-Ok-publish_empty-clause-images : goal.returns-in-Ok-publish_empty-clause-images
returns-in-Ok-publish_empty-clause-images g c = λ h none.
    none_or_empty _ _ _ _ none (begun_join _ _ _ _ _ (begun_narrows _ _ _ _ (c.in-Ok.ensures.any_moment h)) (c.publish_empty.ensures.any_moment h))

pub returns-in-Err-publish_empty-clause-any_moment : goal.returns-in-Err-publish_empty-clause-any_moment
returns-in-Err-publish_empty-clause-any_moment g c = λ h.
    subst (Steps (Begins c.args.schema c.args.ttl) (g.V.Device.directory c.args.dir)) (sym c.into_dir.ensures.same)
    (begun_join _ _ _ _ _ (begun_narrows _ _ _ _ (c.in-Ok.ensures.any_moment h)) (c.publish_empty.ensures.any_moment h))

pub returns-in-Err-publish_empty-clause-images : goal.returns-in-Err-publish_empty-clause-images
returns-in-Err-publish_empty-clause-images g c = λ h none.
    subst (NoneOrEmpty c.args.schema c.args.ttl (g.V.Device.directory c.args.dir)) (sym c.into_dir.ensures.same)
    (none_or_empty _ _ _ _ none (begun_join _ _ _ _ _ (begun_narrows _ _ _ _ (c.in-Ok.ensures.any_moment h)) (c.publish_empty.ensures.any_moment h)))
