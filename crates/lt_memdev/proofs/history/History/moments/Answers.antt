use Rattle.std.proofs.Common.{length, ap, sym, ◌∙◌}
use Rattle.lt_memdev.proofs.Replays.{length-past_of}
use Rattle.lt_memdev.proofs.history.History.moments.Goals as goal

pub returns : goal.returns
returns c = ap length c.as_slice.ensures.value ∙ sym (length-past_of _ c.self.inside.log.items) ∙ ap (λ h. length h.past) c.self.view_is
