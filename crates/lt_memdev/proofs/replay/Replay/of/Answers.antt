use Rattle.lt_memdev.proofs.Replays.{last_of-more}
use Rattle.lt_memdev.proofs.replay.Replay.of.Goals as goal

pub loop-moment-preserved : goal.loop-moment-preserved
loop-moment-preserved c =
    rw (last_of-more _ c.args.past.now c.loop-moment.moment-index c.moment-item.result c.loop-moment-test.true c.moment-item.is)
    (c.in_ok-apply.ensures _ c.loop-moment.invariant)
