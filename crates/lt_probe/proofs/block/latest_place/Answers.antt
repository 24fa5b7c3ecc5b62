use Rattle.std.proofs.Common.{◌≡◌, ℕ, ◌+◌, ◌<◌, ◌≤◌, length, get_or, sym, subst, ◌∙◌, arith}
use Rattle.std.specs.Prelude.{Option, Some}
use Rattle.std.proofs.lemmas.List.{get_or_default}
use Rattle.lt_rec.specs.Record.{Record}
use Rattle.lt_probe.proofs.Picking.{IsSoFar, all_picked, later_picked, earlier_passed}
use Rattle.lt_probe.proofs.block.latest_place.Goals as goal
use Rattle.lt_probe.proofs.block.latest_place.Goals.{then-ts-most, else-ts-most}

pub returns : goal.returns
returns c =
    all_picked c.args.block.now c.args.from c.loop-at.at c.args.to c.args.since c.loop-at.most c.loop-at.place c.loop-at-test.false c.loop-at.auto.at-end c.loop-at.invariant.crossed c.loop-at.invariant.picked

pub loop-at-preserved : goal.loop-at-preserved
loop-at-preserved c =
    let recs = c.args.block.now in
    let at = c.loop-at.at in
    let rec = c.get.result in
    let within : at < length recs = omega (arith, c.loop-at-test.true, c.requires) in
    let here : (d : Record) → get_or recs at d ≡ rec = λ d. get_or_default recs at d rec within ∙ c.get.ensures.value in
    let begun : c.args.from ≤ at = omega (arith, c.loop-at.auto.at) in
    let least = c.loop-at.invariant.least in
    let picked = c.loop-at.invariant.picked in
    elim c.if-ts-most.branch [
      | then-ts-most w ↦
          let late : c.loop-at.most ≤ rec.ts = omega (arith, w.if-ts-most, c.ts-ts.ensures.value) in
          let most_is : rec.ts ≡ c.if-ts-most.most = sym (w.most-is ∙ c.ts-ts.ensures.value) in
          record {
            least = omega (arith, least, late, most_is);
            crossed = λ cross. omega (arith, cross, c.loop-at-test.true);
            picked = subst (λ (p : Option ℕ). IsSoFar recs c.args.from (at + 1) c.args.since c.if-ts-most.most p) (sym w.place-is)
                (subst (λ (m : ℕ). IsSoFar recs c.args.from (at + 1) c.args.since m (Some at)) most_is
                (later_picked recs c.args.from at c.args.since c.loop-at.most rec begun here least c.loop-at.place picked late));
          }
      | else-ts-most w ↦
          let early : rec.ts < c.loop-at.most = omega (arith, w.if-ts-most, c.ts-ts.ensures.value) in
          record {
            least = omega (arith, least, w.most-is);
            crossed = λ cross. omega (arith, cross, c.loop-at-test.true);
            picked = subst (λ (p : Option ℕ). IsSoFar recs c.args.from (at + 1) c.args.since c.if-ts-most.most p) (sym w.place-is)
                (subst (λ (m : ℕ). IsSoFar recs c.args.from (at + 1) c.args.since m c.loop-at.place) (sym w.most-is)
                (earlier_passed recs c.args.from at c.args.since c.loop-at.most rec begun here least c.loop-at.place picked early));
          }
    ]
