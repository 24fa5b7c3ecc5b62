use Rattle.std.proofs.Common.{take}
use Rattle.lt_memdev.specs.History.{Shows, last_of, started}
use Rattle.lt_memdev.proofs.replay.Replay.of.Given as goal

-- the changes so far
abbrev pub invariant-loop-moment : goal.invariant-loop-moment
invariant-loop-moment l = Shows l.replay.files l.replay.may.items (last_of (started l.first l.begun) (take l.moment-index l.past))
