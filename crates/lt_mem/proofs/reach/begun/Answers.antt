use Rattle.std.proofs.Common.{◌≡◌, ◌+◌, ◌-◌, ◌/◌, ◌<◌, List, [], length, sym, ap, ◌∙◌, arith}
use Rattle.std.proofs.lemmas.List.{get_or_default}
use Rattle.lt_rec.specs.Boxes.{is_below}
use Rattle.lt_rec.specs.Record.{Record}
use Rattle.lt_mem.specs.Pieces.{first_key, piece_at}
use Rattle.lt_mem.proofs.Cuts.{pieces_below, pieces_not_below}
use Rattle.lt_mem.proofs.reach.begun.Goals as goal

pub loop-low-preserved-then-begins_below : goal.loop-low-preserved-then-begins_below
loop-low-preserved-then-begins_below c =
    let ps = c.args.pieces.now in
    let i = c.loop-low.invariant in
    let mid = c.loop-low.low + (c.loop-low.high - c.loop-low.low) / 2 in
    let held : mid < length ps = omega arith in
    let same : c.index-pieces-mid.result ≡ piece_at ps mid = c.index-pieces-mid.is ∙ get_or_default ps mid c.index-pieces-mid.result [] held in
    let b = ap (λ (q : List Record). is_below c.args.cut.now (first_key q)) (sym same) ∙ sym c.if-begins_below.ensures in
    record {
      ordered = omega arith;
      within = i.within;
      below = λ k h. pieces_below c.args.cut.now ps c.requires.lined mid held b k (omega arith);
      above = i.above;
    }

pub loop-low-preserved : goal.loop-low-preserved
loop-low-preserved c =
    let ps = c.args.pieces.now in
    let i = c.loop-low.invariant in
    let mid = c.loop-low.low + (c.loop-low.high - c.loop-low.low) / 2 in
    let held : mid < length ps = omega arith in
    let same : c.index-pieces-mid.result ≡ piece_at ps mid = c.index-pieces-mid.is ∙ get_or_default ps mid c.index-pieces-mid.result [] held in
    let b = ap (λ (q : List Record). is_below c.args.cut.now (first_key q)) (sym same) ∙ sym c.if-begins_below.ensures in
    record {
      ordered = omega arith;
      within = omega arith;
      below = i.below;
      above = λ k h w. pieces_not_below c.args.cut.now ps c.requires.lined mid held b k h w;
    }
