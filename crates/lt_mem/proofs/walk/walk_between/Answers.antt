use Rattle.std.proofs.Common.{◌≡◌, ◌+◌, ◌<◌, ◌++◌, [], List, Bool, length, filter, get_or, sym, ap, subst, ◌∙◌, arith}
use Rattle.std.proofs.lemmas.List.{get_or_default}
use Rattle.std.proofs.lemmas.List.Elements.{filter-append}
use Rattle.std.proofs.lemmas.Bool.{eqb-true, ltb-true}
use Rattle.lt_rec.specs.Boxes.{in_box}
use Rattle.lt_rec.specs.Record.{Record}
use Rattle.lt_rec.specs.Records.{joined}
use Rattle.lt_mem.specs.Rising.{IsRising, in_order}
use Rattle.lt_mem.specs.Pieces.{piece_at, AllMeetLo, AllMeetHi}
use Rattle.lt_mem.proofs.Reading.{so_far, place_at, place_within, join_more, read_rest}
use Rattle.lt_mem.proofs.Growth.{grown_step, grown_whole}
use Rattle.lt_mem.proofs.walk.walk_between.Goals as goal
use Rattle.lt_mem.proofs.walk.walk_between.Goals.{then-down, else-down}

pub returns-then-is_full : goal.returns-then-is_full
returns-then-is_full c =
    let p = in_box c.args.raw_box.now in
    let ps = c.args.pieces.now in
    let down = c.args.down in
    let was = in_order down (joined (so_far down ps c.loop-step.step)) in
    let rest = read_rest down ps c.loop-step.step in
    grown_whole c.args.found.now c.loop-step.found (filter p was) (filter p rest.0) (filter p (in_order down (joined ps)))
    c.loop-step.invariant (eqb-true c.loop-step.found.left 0 (sym c.if-is_full.ensures)) (ap (filter p) rest.1 ∙ filter-append p was rest.0)

pub walk_piece-requires-clause-rising : goal.walk_piece-requires-clause-rising
walk_piece-requires-clause-rising c =
    let ps = c.args.pieces.now in
    let at = c.if-down.at in
    let x = c.index-pieces-at.result in
    let at_is : at ≡ place_at c.args.down (length ps) c.loop-step.step = elim c.if-down.branch [
      | then-down w ↦ w.at-is ∙ ap (λ (b : Bool). place_at b (length ps) c.loop-step.step) (sym w.if-down.true)
      | else-down w ↦ w.at-is ∙ ap (λ (b : Bool). place_at b (length ps) c.loop-step.step) (sym w.if-down.false)
    ] in
    let held : at < length ps = (let z = place_within c.args.down (length ps) c.loop-step.step (omega arith) in omega arith) in
    let same : x ≡ piece_at ps at = c.index-pieces-at.is ∙ get_or_default ps at x [] held in
    subst IsRising (sym same) (c.requires.rising at held)

pub walk_piece-requires-clause-lo : goal.walk_piece-requires-clause-lo
walk_piece-requires-clause-lo c = λ e.
    let ps = c.args.pieces.now in
    let at = c.if-down.at in
    let x = c.index-pieces-at.result in
    let at_is : at ≡ place_at c.args.down (length ps) c.loop-step.step = elim c.if-down.branch [
      | then-down w ↦ w.at-is ∙ ap (λ (b : Bool). place_at b (length ps) c.loop-step.step) (sym w.if-down.true)
      | else-down w ↦ w.at-is ∙ ap (λ (b : Bool). place_at b (length ps) c.loop-step.step) (sym w.if-down.false)
    ] in
    let held : at < length ps = (let z = place_within c.args.down (length ps) c.loop-step.step (omega arith) in omega arith) in
    let same : x ≡ piece_at ps at = c.index-pieces-at.is ∙ get_or_default ps at x [] held in
    subst (AllMeetLo c.args.raw_box.now) (sym same) (c.requires.lo at (ltb-true 0 at e) held)

pub walk_piece-requires-clause-hi : goal.walk_piece-requires-clause-hi
walk_piece-requires-clause-hi c = λ e.
    let ps = c.args.pieces.now in
    let at = c.if-down.at in
    let x = c.index-pieces-at.result in
    let next : at + 1 < length ps = ltb-true (at + 1) (length ps) e in
    let same : x ≡ piece_at ps at = c.index-pieces-at.is ∙ get_or_default ps at x [] (omega arith) in
    subst (AllMeetHi c.args.raw_box.now) (sym same) (c.requires.hi at next)

pub loop-step-preserved : goal.loop-step-preserved
loop-step-preserved c =
    let p = in_box c.args.raw_box.now in
    let ps = c.args.pieces.now in
    let down = c.args.down in
    let step = c.loop-step.step in
    let at = c.if-down.at in
    let x = c.index-pieces-at.result in
    let was = in_order down (joined (so_far down ps step)) in
    let now = in_order down (joined (so_far down ps (step + 1))) in
    let at_is : at ≡ place_at down (length ps) step = elim c.if-down.branch [
      | then-down w ↦ w.at-is ∙ ap (λ (b : Bool). place_at b (length ps) step) (sym w.if-down.true)
      | else-down w ↦ w.at-is ∙ ap (λ (b : Bool). place_at b (length ps) step) (sym w.if-down.false)
    ] in
    let more : now ≡ was ++ in_order down x =
    join_more down ps step x (omega arith) ∙ ap (λ k. was ++ in_order down (get_or ps k x)) (sym at_is) ∙ ap (λ (q : List Record). was ++ in_order down q) (sym c.index-pieces-at.is) in
    grown_step c.args.found.now c.loop-step.found c.walk_piece.new.found (filter p was) (filter p (in_order down x)) (filter p now)
    c.loop-step.invariant c.in_ok-walk_piece.ensures (ap (filter p) more ∙ filter-append p was (in_order down x))
