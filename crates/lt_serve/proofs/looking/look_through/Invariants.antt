use Rattle.std.proofs.Common.{length}
use Rattle.lt_serve.specs.Looking.{LookedThrough}
use Rattle.lt_serve.proofs.looking.look_through.Given as goal

-- the front of the input that was read may be answered
abbrev pub invariant-loop-bytes : goal.invariant-loop-bytes
invariant-loop-bytes l = LookedThrough l.input l.rest l.client l.number

abbrev pub decreases-loop-bytes : goal.decreases-loop-bytes
decreases-loop-bytes l = length l.rest
