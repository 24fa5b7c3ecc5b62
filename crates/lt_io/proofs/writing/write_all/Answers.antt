use Rattle.std.proofs.Common.{arith, take, drop}
use Rattle.std.proofs.Math.Seq.{take-add}
use Rattle.lt_io.proofs.Pieces.{Appends-more}
use Rattle.lt_io.proofs.writing.write_all.Goals as goal

pub loop-at-preserved : goal.loop-at-preserved
loop-at-preserved g c =
    let at = c.loop-at.at in
    let count = c.in_ok-count.count in
    let bytes = c.args.bytes.now in
    let more = rw c.split_at.ensures.back at c.in_ok-count.ensures.bytes in
    record {
      within = omega (arith, c.in_ok-count.ensures.within, c.split_at.ensures.back_len);
      written = rw (take-add at count bytes) (Appends-more _ (g.K.Sink.held c.loop-at.sink) _ (take at bytes) (take count (drop at bytes)) c.loop-at.invariant.written more);
      later = omega (arith, c.in_ok-count.ensures.cause.later);
    }
