use Rattle.std.proofs.Common.{◌≡◌, sym, subst, ap, ◌∙◌}
use Rattle.std.specs.List.{prefix_len}
use Rattle.lt_rec.specs.Closure.{has}
use Rattle.lt_deps.specs.Kept.{StandsFor}
use Rattle.lt_deps.proofs.Notes.{left}
use Rattle.lt_deps.proofs.deps.Deps.gone.Goals as goal

pub returns-clause-left : goal.returns-clause-left
returns-clause-left c = λ notes h closed.
    let i = c.self.inside in
    let count : c.front_in-count.result ≡ prefix_len (has c.args.tablets.now) i.tablets.items = c.front_in-count.ensures.exact ∙ ap (prefix_len (has c.args.tablets.now)) c.as_slice.ensures.value in
    rw (c.leave_front.ensures.items, c.leave_front-2.ensures.items, c.saturating_sub-self-inside.ensures, count)
    (left i.tablets.items i.ahead.items i.last notes c.args.tablets.now (subst (λ v. StandsFor v notes) (sym c.self.view_is) h) closed)
