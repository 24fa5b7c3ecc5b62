use Rattle.std.proofs.Common.{◌-◌, ◌∙◌, ap, drop, arith}
use Rattle.lt_rec.specs.Records.{joined}
use Rattle.lt_rec.proofs.Joined.{left_more, left_shorter, shorter_joined, alone_joined, set_last, take_set_last, some_of, none_of}
use Rattle.lt_rec.proofs.rec_list.RecList.skip_last.Goals as goal

pub invariant_of-self : goal.invariant_of-self
invariant_of-self c =
    let i = c.self.inside in
    rw (c.truncate.ensures.items, take_set_last i.chunks.items (c.len-end.result - 1) c.skip_last.new.self (omega arith))
    (left_shorter i.chunks.items i.at (c.len-end.result - 1) (omega arith) (omega arith) c.self.invariant.some)

pub invariant_of-self-else-is_empty : goal.invariant_of-self-else-is_empty
invariant_of-self-else-is_empty c =
    let i = c.self.inside in
    rw (set_last i.chunks.items (c.len-end.result - 1) c.skip_last.new.self (omega arith))
    (left_more _ _ _ (left_shorter i.chunks.items i.at (c.len-end.result - 1) (omega arith) (omega arith) c.self.invariant.some) (some_of _ c.if-is_empty.ensures))

pub returns-then-is_empty : goal.returns-then-is_empty
returns-then-is_empty c =
    let i = c.self.inside in
    rw (← c.self.view_is) (ap (λ ps. joined (drop i.at ps)) (c.truncate.ensures.items ∙ take_set_last i.chunks.items (c.len-end.result - 1) c.skip_last.new.self (omega arith))
    ∙ alone_joined i.chunks.items i.at (c.len-end.result - 1) c.index_mut-last.result.now c.skip_last.new.self (omega arith) (omega arith) c.index_mut-last.ensures.value c.skip_last.ensures (none_of _ c.if-is_empty.ensures) c.self.invariant.some)

pub returns-else-is_empty : goal.returns-else-is_empty
returns-else-is_empty c =
    let i = c.self.inside in
    rw (← c.self.view_is) (ap (λ ps. joined (drop i.at ps)) (set_last i.chunks.items (c.len-end.result - 1) c.skip_last.new.self (omega arith))
    ∙ shorter_joined i.chunks.items i.at (c.len-end.result - 1) c.index_mut-last.result.now c.skip_last.new.self (omega arith) (omega arith) c.index_mut-last.ensures.value c.skip_last.ensures c.self.invariant.some)
