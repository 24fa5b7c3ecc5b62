use Rattle.std.proofs.Common.{length}
use Rattle.lt_lang.specs.Parsing.{literals_at}
use Rattle.lt_lang.proofs.LiteralLoop.{ValuesSoFar}
use Rattle.lt_lang.proofs.literals.literals_at.Given as goal

abbrev pub invariant-loop-values : goal.invariant-loop-values
invariant-loop-values l = ValuesSoFar l.values.items l.rest (literals_at l.bytes)

abbrev pub decreases-loop-values : goal.decreases-loop-values
decreases-loop-values l = length l.rest
