use Rattle.std.proofs.Common.{List, ℕ, [], length, drop, ap, arith}
use Rattle.lt_block.proofs.Filling.{none_yet, held_is, Holds-again}
use Rattle.lt_block.proofs.writer.BlockWriter.new.Goals as goal

pub invariant_of-result : goal.invariant_of-result
invariant_of-result c = Holds-again 0 c.new.result.items [] (none_yet c.new.result.items (ap (λ (t : List ℕ). length (drop 4 t)) c.new.ensures.items) (λ lt. absurd (omega (arith, ap length c.new.ensures.items, lt))))

pub returns : goal.returns
returns c = held_is 0 c.new.result.items [] (none_yet c.new.result.items (ap (λ (t : List ℕ). length (drop 4 t)) c.new.ensures.items) (λ lt. absurd (omega (arith, ap length c.new.ensures.items, lt))))
