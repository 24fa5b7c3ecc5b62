use Rattle.lt_rec.proofs.Joined.{left_more, joined_more, some_of}
use Rattle.lt_rec.proofs.rec_list.RecList.push.Goals as goal

pub invariant_of-self-2 : goal.invariant_of-self-2
invariant_of-self-2 c =
    let i = c.self.inside in
    rw c.in_ok-push.ensures.items (left_more i.chunks.items i.at c.args.chunk c.self.invariant (some_of _ c.if-is_empty.ensures))

pub returns-clause-ok : goal.returns-clause-ok
returns-clause-ok c =
    let i = c.self.inside in
    rw (← c.self.view_is, c.in_ok-push.ensures.items) (joined_more i.chunks.items i.at c.args.chunk c.self.invariant.within)
