use Rattle.std.proofs.Common.{sym, ◌∙◌, ap}
use Rattle.lt_commit.specs.Anchored.{newest}
use Rattle.lt_commit.proofs.Kept.{newest-push}
use Rattle.lt_commit.proofs.anchor.Anchor.stone.Goals as goal

pub returns-clause-newest : goal.returns-clause-newest
returns-clause-newest g c =
    c.as_ref.ensures.value ∙ sym (newest-push c.self.inside.older.items c.self.inside.last) ∙ ap (λ a. newest a.may) c.self.view_is

pub returns-clause-none : goal.returns-clause-none
returns-clause-none g c = λ e.
    sym (ap (λ a. a.may) c.self.view_is) ∙ c.self.invariant.none (newest-push c.self.inside.older.items c.self.inside.last ∙ sym c.as_ref.ensures.value ∙ e)
