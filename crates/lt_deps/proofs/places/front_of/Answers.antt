use Rattle.std.proofs.Common.{◌≡◌, ◌+◌, ◌<◌, inl, inr, subst, arith, get_or}
use Rattle.std.proofs.lemmas.Bool.{cases_lt}
use Rattle.lt_deps.proofs.places.front_of.Goals as goal

pub loop-seen-preserved : goal.loop-seen-preserved
loop-seen-preserved c =
    let i = c.loop-seen.invariant in
    let end = c.loop-seen.end in
    let seen = c.loop-seen.seen in
    let now_in = c.requires.within seen (omega arith) in
    record {
      holds = omega arith;
      behind = omega arith;
      within = omega arith;
      closed = λ j h. elim (cases_lt j seen) [
        | inl before ↦ let old = i.closed j before in omega arith
        | inr after ↦ let same : seen ≡ j = omega arith in subst (λ k. k + get_or c.args.ahead.now k 0 < c.max-end.result) same (omega arith)
      ];
      least = λ p low up k h. elim (cases_lt k end) [
        | inl before ↦ i.least p low up k before
        | inr after ↦ up k seen (omega arith) (i.least p low up seen (omega arith)) (omega arith)
      ];
    }
