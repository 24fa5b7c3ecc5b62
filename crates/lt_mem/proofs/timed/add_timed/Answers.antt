use Rattle.std.proofs.Common.{◌≡◌, ◌+◌, ◌-◌, List, filter, take, drop, sym, ap, ◌∙◌, arith}
use Rattle.std.proofs.lemmas.List.{take-append-drop}
use Rattle.std.proofs.lemmas.List.Elements.{filter-append}
use Rattle.std.proofs.lemmas.Bool.{eqb-true}
use Rattle.lt_rec.specs.Record.{Record}
use Rattle.lt_mem.specs.Rising.{in_order}
use Rattle.lt_mem.specs.Pieces.{has_time}
use Rattle.lt_mem.specs.Growth.{grown}
use Rattle.lt_mem.proofs.Filtered.{run_step, length_in_order}
use Rattle.lt_mem.proofs.Growth.{grown_step, grown_whole, grown_by_none}
use Rattle.lt_mem.proofs.timed.add_timed.Goals as goal
use Rattle.lt_mem.proofs.timed.add_timed.Goals.{then-start-end+in_ok-cut+in_ok-add, else-start-end}

pub loop-start-preserved : goal.loop-start-preserved
loop-start-preserved c =
    let p = has_time c.args.raw_box.now in
    let ys = in_order c.args.down c.args.recs.now in
    let start = c.loop-start.start in
    let end = c.run_end-end.result in
    let run = c.run_end-end.ensures in
    let long = length_in_order c.args.down c.args.recs.now in
    let more = take (end - start) (drop start ys) in
    let added : c.if-start-end.found ≡ grown c.loop-start.found more = elim c.if-start-end.branch [
      | then-start-end+in_ok-cut+in_ok-add w ↦
          w.found-is ∙ w.in_ok-add.ensures ∙ ap (grown c.loop-start.found) (w.in_ok-cut.ensures ∙ ap (λ (zs : List Record). take (end - start) (drop start zs)) c.requires.same)
      | else-start-end w ↦
          let none : end - start ≡ 0 = omega arith in
          w.found-is ∙ sym (ap (λ k. grown c.loop-start.found (take k (drop start ys))) none ∙ grown_by_none c.loop-start.found)
    ] in
    record {
      within = omega (arith, run.within);
      added = grown_step c.args.found.now c.loop-start.found c.if-start-end.found (filter p (take start ys)) more (filter p (take (end + 1) ys))
          c.loop-start.invariant.added added (run_step p ys start end run.forward (omega (arith, run.within)) run.timed (λ d h. run.ends d (omega arith)));
    }

pub returns-else-not-is_full : goal.returns-else-not-is_full
returns-else-not-is_full c =
    let p = has_time c.args.raw_box.now in
    let ys = in_order c.args.down c.args.recs.now in
    let start = c.loop-start.start in
    grown_whole c.args.found.now c.loop-start.found (filter p (take start ys)) (filter p (drop start ys)) (filter p c.args.chunk.now)
    c.loop-start.invariant.added (eqb-true c.loop-start.found.left 0 (sym c.if-not-is_full.ensures))
    (ap (filter p) (c.requires.same ∙ sym (take-append-drop start ys)) ∙ filter-append p (take start ys) (drop start ys))
