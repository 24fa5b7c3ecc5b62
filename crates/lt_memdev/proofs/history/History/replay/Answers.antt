use Rattle.std.proofs.Common.{◌≡◌, ◌≤◌, length, take, arith, ap, subst, refl, ◌∙◌}
use Rattle.std.proofs.lemmas.Result.{IfOk-weaker}
use Rattle.lt_memdev.specs.History.{Shows, started, last_of}
use Rattle.lt_memdev.proofs.Replays.{shows_at, lawful_at, length-past_of}
use Rattle.lt_memdev.proofs.history.History.replay.Goals as goal

pub split_at-requires : goal.split_at-requires
split_at-requires c =
    let inside = c.self.inside in
    omega (arith, ap length c.as_slice.ensures.value, ap (λ h. length h.past) c.self.view_is, length-past_of (started inside.first inside.begun) inside.log.items, c.requires)

pub returns-clause-shows : goal.returns-clause-shows
returns-clause-shows c = rw (← c.self.view_is) (
    let inside = c.self.inside in
    let within : c.args.moment ≤ length inside.log.items = omega (arith, ap (λ h. length h.past) c.self.view_is, length-past_of (started inside.first inside.begun) inside.log.items, c.requires) in
    let front : c.split_at.result.0.now ≡ take c.args.moment inside.log.items = c.split_at.ensures.front ∙ ap (take c.args.moment) c.as_slice.ensures.value in
    IfOk-weaker c.of.result _ _
    (λ replay shows state e. shows_at (started inside.first inside.begun) inside.log.items inside.ceiling c.args.moment state within e replay.files replay.may.items
    (subst (λ past. Shows replay.files replay.may.items (last_of (started inside.first inside.begun) past)) front shows))
    c.of.ensures)

pub returns-clause-lawful : goal.returns-clause-lawful
returns-clause-lawful c = rw (← c.self.view_is) (λ state e.
    let inside = c.self.inside in
    lawful_at (started inside.first inside.begun) inside.log.items inside.ceiling c.args.moment state refl c.self.invariant e)
