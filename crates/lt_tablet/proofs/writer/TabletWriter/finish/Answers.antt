use Rattle.std.proofs.Common.{[], ◌∷◌, ◌++◌}
use Rattle.std.proofs.lemmas.Result.{IfOk-weaker}
use Rattle.lt_tablet.proofs.writer.TabletWriter.finish.Goals as goal

pub close-requires-clause-cut : goal.close-requires-clause-cut
close-requires-clause-cut g c κs within = (c.requires.ready.1.blocks ++ c.args.self.filling ∷ [], c.requires.ready.0, c.in_ok-put_block.ensures.put c.requires.ready.1.blocks c.requires.ready.0 c.requires.ready.1.cut)

pub returns-clause-written : goal.returns-clause-written
returns-clause-written g c = IfOk-weaker c.close.result _ _ (λ fresh h recs wrote. h (wrote.blocks ++ c.args.self.filling ∷ []) recs (c.in_ok-put_block.ensures.put wrote.blocks recs wrote.cut)) c.close.ensures.written
