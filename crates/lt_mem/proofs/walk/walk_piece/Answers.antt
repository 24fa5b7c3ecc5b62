use Rattle.std.proofs.Common.{◌≡◌, List, OnOk, filter, sym, ap, subst, ◌∙◌, arith}
use Rattle.lt_rec.specs.Boxes.{in_box}
use Rattle.lt_rec.specs.Record.{Record}
use Rattle.lt_rec.specs.Records.{piece}
use Rattle.lt_mem.specs.Rising.{in_order}
use Rattle.lt_mem.specs.Pieces.{has_time}
use Rattle.lt_mem.specs.Growth.{grown}
use Rattle.lt_mem.proofs.Filtered.{box_middle, box_none}
use Rattle.lt_mem.proofs.Growth.{grown_by_none}
use Rattle.lt_mem.proofs.walk.walk_piece.Goals as goal

pub returns-then-from-to : goal.returns-then-from-to
returns-then-from-to c =
    let a = c.args in
    let from = c.from_of-from in
    let to = c.to_of-to in
    let none = box_none a.raw_box.now c.as_slice-recs.result.now from.result to.result from.ensures.before from.ensures.after to.ensures.before to.ensures.after a.down (omega arith) in
    sym (ap (grown a.found.now) (ap (λ (xs : List Record). filter (in_box a.raw_box.now) (in_order a.down xs)) (sym c.as_slice-recs.ensures) ∙ none) ∙ grown_by_none a.found.now)

pub returns : goal.returns
returns c =
    let a = c.args in
    let from = c.from_of-from in
    let to = c.to_of-to in
    let middle : filter (in_box a.raw_box.now) (in_order a.down a.held.now) ≡ filter (has_time a.raw_box.now) (piece a.held.now from.result to.result a.down) =
    subst (λ (xs : List Record). filter (in_box a.raw_box.now) (in_order a.down xs) ≡ filter (has_time a.raw_box.now) (piece xs from.result to.result a.down)) c.as_slice-recs.ensures
    (box_middle a.raw_box.now c.as_slice-recs.result.now from.result to.result from.ensures.before from.ensures.after to.ensures.before to.ensures.after a.down (omega arith)) in
    subst (λ (ys : List Record). OnOk c.walk_run.result (c.walk_run.new.found ≡ grown a.found.now ys)) (sym middle) c.walk_run.ensures
