use Rattle.std.proofs.Common.{◌≡◌, ◌≤◌, ◌<◌, length, get_or, arith, ap, sym, ◌∙◌}
use Rattle.lt_memdev.specs.History.{started}
use Rattle.lt_memdev.proofs.Replays.{state_is, ceiling_within, ceiling_past, length-past_of}
use Rattle.lt_memdev.proofs.history.History.ceiling_at.Goals as goal

pub returns-in-Some : goal.returns-in-Some
returns-in-Some c = rw (← c.self.view_is) (λ state e.
    let inside = c.self.inside in
    let found : c.in-Some.next.now ≡ get_or inside.log.items c.args.moment c.in-Some.next.now = c.in-Some.ensures.lookup.1 ∙ ap (λ log. get_or log c.args.moment c.in-Some.next.now) c.as_slice.ensures.value in
    let below : c.args.moment < length inside.log.items = omega (arith, ap length c.as_slice.ensures.value, c.in-Some.ensures.lookup.3.0) in
    sym (ceiling_within inside.log.items inside.ceiling c.args.moment c.in-Some.next.now below found)
    ∙ ap (λ s. s.ceiling) (state_is (started inside.first inside.begun) inside.log.items inside.ceiling c.args.moment state (omega arith) e))

pub returns-in-None : goal.returns-in-None
returns-in-None c = rw (← c.self.view_is) (λ state e.
    let inside = c.self.inside in
    let within : c.args.moment ≤ length inside.log.items = omega (arith, ap (λ h. length h.past) c.self.view_is, length-past_of (started inside.first inside.begun) inside.log.items, c.requires) in
    let over : length inside.log.items ≤ c.args.moment = omega (arith, ap length c.as_slice.ensures.value, c.in-None.ensures.lookup.3) in
    sym (ceiling_past inside.log.items inside.ceiling c.args.moment over) ∙ ap (λ s. s.ceiling) (state_is (started inside.first inside.begun) inside.log.items inside.ceiling c.args.moment state within e))
