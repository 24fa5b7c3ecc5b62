use Rattle.std.proofs.Common.{length}
use Rattle.lt_lang.specs.Parsing.{quoted_at}
use Rattle.lt_lang.proofs.TextLoop.{TextSoFar}
use Rattle.lt_lang.proofs.texts.quoted_at.Given as goal

abbrev pub invariant-loop-byte : goal.invariant-loop-byte
invariant-loop-byte l = TextSoFar l.text.items l.rest (quoted_at l.bytes)

abbrev pub decreases-loop-byte : goal.decreases-loop-byte
decreases-loop-byte l = length l.rest
