use Rattle.std.proofs.Common.{◌≡◌, ◌-◌, length, take}
use Rattle.lt_rec.specs.Records.{joined}
use Rattle.lt_rec.proofs.rec_list.RecList.front.Given as goal

-- the pieces so far gave their records, as many as were wanted
abbrev pub invariant-loop-chunk : goal.invariant-loop-chunk
invariant-loop-chunk l = record {
  given : l.list ≡ take l.count (joined (take l.chunk-index l.left));
  wanted : l.wanted ≡ l.count - length (joined (take l.chunk-index l.left));
}
