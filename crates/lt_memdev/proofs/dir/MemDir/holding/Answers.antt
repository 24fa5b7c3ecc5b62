use Rattle.std.proofs.Common.{◌∙◌, ◌∷◌, []}
use Rattle.lt_memdev.specs.Files.{above}
use Rattle.lt_memdev.proofs.Kept.{stored_first}
use Rattle.lt_memdev.proofs.dir.MemDir.holding.Goals as goal

pub invariant_of-result : goal.invariant_of-result
invariant_of-result c = stored_first c.begin-history.result c.args.files c.args.current
    (c.begin-history.ensures.now ∙ (λ i. record { files = c.in_ok-copy.ensures i; may = c.share.ensures i ∷ []; ceiling = above (c.in_ok-copy.ensures i) }))
    c.requires
