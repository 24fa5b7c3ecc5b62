use Rattle.std.proofs.Common.{◌≡◌, take}
use Rattle.lt_memory.specs.Sharing.{shares_among}
use Rattle.lt_memory.proofs.sharing.share_all.Given as goal

abbrev pub invariant-loop-tablet : goal.invariant-loop-tablet
invariant-loop-tablet l = l.shares.items ≡ shares_among l.parts (take l.tablet-index l.tablets)
