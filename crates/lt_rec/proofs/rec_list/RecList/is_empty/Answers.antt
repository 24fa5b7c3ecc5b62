use Rattle.std.proofs.Common.{sym}
use Rattle.lt_rec.proofs.Joined.{empty_joined}
use Rattle.lt_rec.proofs.rec_list.RecList.is_empty.Goals as goal

pub returns : goal.returns
returns c =
    let i = c.self.inside in
    rw (← c.self.view_is, c.as_slice.ensures.value) (sym (empty_joined i.chunks.items i.at c.self.invariant))
