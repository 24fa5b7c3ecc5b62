use Rattle.std.proofs.Common.{length, take, ap, length-append, arith}
use Rattle.lt_rec.specs.Records.{joined}
use Rattle.lt_rec.proofs.Joined.{joined_step}
use Rattle.lt_rec.proofs.rec_list.RecList.len.Goals as goal

pub loop-chunk-preserved : goal.loop-chunk-preserved
loop-chunk-preserved c =
    let ps = c.split_at.result.1.now in
    let i = c.loop-chunk.chunk-index in
    let more = ap length (joined_step ps i c.chunk-item.result (omega arith) c.chunk-item.is) in
    omega (arith, more, length-append (joined (take i ps)) c.chunk-item.result, c.len.ensures, c.saturating_add-count.ensures, c.loop-chunk.invariant)
