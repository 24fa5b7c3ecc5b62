use Rattle.std.proofs.Common.{◌-◌, ◌≤◌, sym, ap, length, arith}
use Rattle.std.specs.Arc.{arc_value}
use Rattle.lt_rec.proofs.Pieces.{cut_up, cut_down, length_piece}
use Rattle.lt_rec.proofs.rec_list.Chunk.cut.Goals as goal
use Rattle.lt_rec.proofs.rec_list.Chunk.cut.Goals.{then-self, else-self}

pub returns : goal.returns
returns c =
    let i = c.self.inside in
    let ordered : i.from ≤ i.to = omega arith in
    let whole : i.to ≤ length (arc_value i.recs).items = omega arith in
    let within : c.args.to ≤ i.to - i.from = omega (arith, ap length c.self.view_is, length_piece (arc_value i.recs).items i.from i.to i.down ordered whole) in
    elim c.if-self.branch [
      | then-self w ↦ rw (← c.self.view_is, c.in_ok-recs.ensures)
          (sym (cut_down (arc_value i.recs).items i.from i.to c.args.from c.args.to _ _ i.down w.if-self.true ordered whole (omega arith) within (ap (λ p. p.0) w.from-is) (ap (λ p. p.1) w.from-is)))
      | else-self w ↦ rw (← c.self.view_is, c.in_ok-recs.ensures)
          (sym (cut_up (arc_value i.recs).items i.from i.to c.args.from c.args.to _ _ i.down w.if-self.false ordered whole (omega arith) within (ap (λ p. p.0) w.from-is) (ap (λ p. p.1) w.from-is)))
    ]
