use Rattle.std.proofs.Common.{sym, arith}
use Rattle.std.specs.Arc.{arc_value}
use Rattle.lt_rec.proofs.Pieces.{skip_first_up, skip_first_down}
use Rattle.lt_rec.proofs.rec_list.Chunk.skip_first.Goals as goal

pub returns-then-self-2 : goal.returns-then-self-2
returns-then-self-2 c =
    let i = c.self.inside in
    rw (← c.self.view_is) (sym (skip_first_down (arc_value i.recs).items i.from i.to i.down c.if-self-2.true (omega arith) (omega arith)))

pub returns-else-self-2 : goal.returns-else-self-2
returns-else-self-2 c =
    let i = c.self.inside in
    rw (← c.self.view_is) (sym (skip_first_up (arc_value i.recs).items i.from i.to i.down c.if-self-2.false (omega arith) (omega arith)))
