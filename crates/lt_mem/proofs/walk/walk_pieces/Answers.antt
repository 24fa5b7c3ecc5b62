use Rattle.std.proofs.Common.{◌≡◌, List, OnOk, filter, take, drop, sym, ap, subst, ◌∙◌, arith}
use Rattle.lt_rec.specs.Boxes.{in_box}
use Rattle.lt_rec.specs.Record.{Record}
use Rattle.lt_rec.specs.Records.{joined}
use Rattle.lt_mem.specs.Rising.{in_order}
use Rattle.lt_mem.specs.Pieces.{EachRises}
use Rattle.lt_mem.specs.Growth.{ListInGrowth, grown}
use Rattle.lt_mem.proofs.Gap.{between_rises}
use Rattle.lt_mem.proofs.Filtered.{box_between}
use Rattle.lt_mem.proofs.walk.walk_pieces.Goals as goal

pub walk_between-requires-clause-rising : goal.walk_between-requires-clause-rising
walk_between-requires-clause-rising c =
    let ps = c.args.pieces.now in
    let end = c.end_of-end.result in
    let first = c.min-first.result in
    let same : c.split_at-2.result.1.now ≡ drop first (take end ps) = c.split_at-2.ensures.back ∙ ap (drop first) c.split_at.ensures.front in
    subst EachRises (sym same) (between_rises ps first end c.requires.lined c.end_of-end.ensures.within)

pub returns : goal.returns
returns c =
    let a = c.args in
    let ps = a.pieces.now in
    let end = c.end_of-end.result in
    let first = c.min-first.result in
    let same : c.split_at-2.result.1.now ≡ drop first (take end ps) = c.split_at-2.ensures.back ∙ ap (drop first) c.split_at.ensures.front in
    let all = box_between a.raw_box.now ps first end a.down c.end_of-end.ensures.within (λ k h. c.first_of.ensures.before k (omega arith)) c.end_of-end.ensures.after in
    subst (λ (g : ListInGrowth). OnOk c.walk_between.result (c.walk_between.new.found ≡ grown g (filter (in_box a.raw_box.now) (in_order a.down (joined ps))))) c.reserve.ensures
    (subst (λ (ys : List Record). OnOk c.walk_between.result (c.walk_between.new.found ≡ grown c.reserve.new.self ys))
    (ap (λ (qs : List (List Record)). filter (in_box a.raw_box.now) (in_order a.down (joined qs))) same ∙ sym all) c.walk_between.ensures)
