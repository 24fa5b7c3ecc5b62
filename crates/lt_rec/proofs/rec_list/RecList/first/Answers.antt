use Rattle.std.proofs.Common.{◌∙◌, sym, arith}
use Rattle.lt_rec.proofs.Joined.{first_joined}
use Rattle.lt_rec.proofs.rec_list.RecList.first.Goals as goal

pub returns : goal.returns
returns c =
    let i = c.self.inside in
    rw (← c.self.view_is) (c.first.ensures ∙ sym (first_joined i.chunks.items i.at c.index.result.now (omega arith) c.index.ensures c.self.invariant.some))
