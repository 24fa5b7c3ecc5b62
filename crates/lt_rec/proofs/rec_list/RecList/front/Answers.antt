use Rattle.std.proofs.Common.{◌≡◌, ◌+◌, ◌++◌, length, min, take, drop, ap, sym, ◌∙◌, length-append, arith}
use Rattle.lt_rec.specs.Records.{joined}
use Rattle.lt_rec.proofs.Joined.{joined_step, front_step, front_whole}
use Rattle.lt_rec.proofs.rec_list.RecList.front.Goals as goal

pub returns-then-wanted-eq0 : goal.returns-then-wanted-eq0
returns-then-wanted-eq0 c =
    let ps = c.split_at.result.1.now in
    let i = c.loop-chunk.chunk-index in
    let left = ap (λ qs. joined (drop c.self.inside.at qs)) c.as_slice.ensures.value in
    c.loop-chunk.invariant.given
    ∙ front_whole c.args.count ps i (omega (arith, c.loop-chunk.invariant.wanted, c.if-wanted-eq0.true))
    ∙ ap (take c.args.count) (ap joined c.split_at.ensures.back ∙ left ∙ c.self.view_is)

pub loop-chunk-preserved : goal.loop-chunk-preserved
loop-chunk-preserved c =
    let ps = c.split_at.result.1.now in
    let i = c.loop-chunk.chunk-index in
    let p = c.chunk-item.result in
    let more : joined (take (i + 1) ps) ≡ joined (take i ps) ++ p = joined_step ps i p (omega arith) c.chunk-item.is in
    let long = ap length more in
    let given = c.min-given.ensures ∙ ap (min c.loop-chunk.wanted) c.len.ensures in
    record {
      given = c.in_ok-push.ensures.ok ∙ (λ j. c.loop-chunk.invariant.given j ++ c.in_ok-cut.ensures j)
          ∙ front_step c.args.count c.loop-chunk.wanted c.min-given.result (joined (take i ps)) p c.loop-chunk.invariant.wanted (omega arith) given
          ∙ ap (take c.args.count) (sym more);
      wanted = omega (arith, long, length-append (joined (take i ps)) p, given, c.loop-chunk.invariant.wanted);
    }
