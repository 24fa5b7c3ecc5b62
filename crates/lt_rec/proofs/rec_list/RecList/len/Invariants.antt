use Rattle.std.proofs.Common.{◌≡◌, ◌-◌, ◌^◌, length, min, take}
use Rattle.lt_rec.specs.Records.{joined}
use Rattle.lt_rec.proofs.rec_list.RecList.len.Given as goal

-- the records of the pieces so far are counted
abbrev pub invariant-loop-chunk : goal.invariant-loop-chunk
invariant-loop-chunk l = l.count ≡ min (length (joined (take l.chunk-index l.left))) (2 ^ 64 - 1)
