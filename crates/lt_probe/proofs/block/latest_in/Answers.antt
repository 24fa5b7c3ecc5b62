use Rattle.std.proofs.Common.{◌<◌, length, ap, subst, sym, ◌∙◌, arith}
use Rattle.std.specs.Prelude.{count_by, Some}
use Rattle.lt_rec.specs.Boxes.{is_below}
use Rattle.lt_rec.specs.Record.{Record}
use Rattle.lt_rec.specs.declared.cut.Cut.{Cut}
use Rattle.lt_probe.specs.Latest.{IsLatest}
use Rattle.lt_probe.specs.Picked.{IsPicked}
use Rattle.lt_probe.proofs.Later.{none_later, latest_it, latest_best}
use Rattle.lt_probe.proofs.block.latest_in.Goals as goal

pub returns-in_default : goal.returns-in_default
returns-in_default c =
    let recs = c.args.block.now in
    let q = c.args.asked.now in
    let from_is = c.seek-from.ensures.exact ∙ ap (λ (cut : Cut). count_by (λ r. is_below cut r.key) recs) c.lo.ensures in
    let to_is = c.seek-to.ensures.exact ∙ ap (λ (cut : Cut). count_by (λ r. is_below cut r.key) recs) c.hi.ensures in
    none_later recs q.prefix q.since c.seek-from.result c.seek-to.result c.count-count.ensures.block from_is to_is c.args.best (λ k d low high. omega (arith, c.in_default.ensures k d low high, c.since.ensures))

pub returns-in_ok-to_rec : goal.returns-in_ok-to_rec
returns-in_ok-to_rec c =
    let recs = c.args.block.now in
    let q = c.args.asked.now in
    let from_is = c.seek-from.ensures.exact ∙ ap (λ (cut : Cut). count_by (λ r. is_below cut r.key) recs) c.lo.ensures in
    let to_is = c.seek-to.ensures.exact ∙ ap (λ (cut : Cut). count_by (λ r. is_below cut r.key) recs) c.hi.ensures in
    let picked : IsPicked recs c.seek-from.result c.seek-to.result q.since c.in-Some.place = subst (λ n. IsPicked recs c.seek-from.result c.seek-to.result n c.in-Some.place) c.since.ensures c.in-Some.ensures in
    let within : c.in-Some.place < length recs = omega (arith, picked.below, c.if-prove.false, c.count-count.ensures.value) in
    subst (λ (r : Record). IsLatest recs q.prefix q.since c.args.best (Some r)) (sym c.in_ok-to_rec.ensures.value)
    (latest_it recs q.prefix q.since c.seek-from.result c.seek-to.result c.count-count.ensures.block from_is to_is c.in-Some.place c.get-rec.result picked within c.get-rec.ensures.value c.args.best c.if-is_after.ensures)

pub returns-else-is_after : goal.returns-else-is_after
returns-else-is_after c =
    let recs = c.args.block.now in
    let q = c.args.asked.now in
    let from_is = c.seek-from.ensures.exact ∙ ap (λ (cut : Cut). count_by (λ r. is_below cut r.key) recs) c.lo.ensures in
    let to_is = c.seek-to.ensures.exact ∙ ap (λ (cut : Cut). count_by (λ r. is_below cut r.key) recs) c.hi.ensures in
    let picked : IsPicked recs c.seek-from.result c.seek-to.result q.since c.in-Some.place = subst (λ n. IsPicked recs c.seek-from.result c.seek-to.result n c.in-Some.place) c.since.ensures c.in-Some.ensures in
    let within : c.in-Some.place < length recs = omega (arith, picked.below, c.if-prove.false, c.count-count.ensures.value) in
    latest_best recs q.prefix q.since c.seek-from.result c.seek-to.result c.count-count.ensures.block from_is to_is c.in-Some.place c.get-rec.result picked within c.get-rec.ensures.value c.args.best c.if-is_after.ensures
