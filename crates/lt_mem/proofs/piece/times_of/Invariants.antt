use Rattle.std.proofs.Common.{take}
use Rattle.lt_mem.specs.Pieces.{AreWithin}
use Rattle.lt_mem.proofs.piece.times_of.Given as goal

-- the timestamps so far lie between the two
abbrev pub invariant-loop-rec : goal.invariant-loop-rec
invariant-loop-rec l = AreWithin (take l.rec-index l.recs) l.earliest l.latest
