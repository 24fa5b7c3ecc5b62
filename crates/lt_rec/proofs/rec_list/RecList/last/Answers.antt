use Rattle.std.proofs.Common.{◌∙◌, sym, arith}
use Rattle.lt_rec.proofs.Joined.{last_joined}
use Rattle.lt_rec.proofs.rec_list.RecList.last.Goals as goal

pub returns : goal.returns
returns c =
    let i = c.self.inside in
    rw (← c.self.view_is) (c.last.ensures ∙ sym (last_joined i.chunks.items i.at _ c.index.result.now (omega arith) (omega arith) c.index.ensures c.self.invariant.some))
