use Rattle.std.proofs.Common.{sym, arith}
use Rattle.std.specs.Arc.{arc_value}
use Rattle.lt_rec.proofs.Pieces.{skip_last_down}
use Rattle.lt_rec.proofs.rec_list.Chunk.skip_last.Goals as goal

pub returns-then-self-2 : goal.returns-then-self-2
returns-then-self-2 c =
    let i = c.self.inside in
    rw (← c.self.view_is) (sym (skip_last_down (arc_value i.recs).items i.from i.to i.down c.if-self-2.true (omega arith) (omega arith)))
