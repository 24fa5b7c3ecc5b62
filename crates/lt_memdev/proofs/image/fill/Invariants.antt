use Rattle.std.proofs.Common.{Some}
use Rattle.lt_memdev.specs.Chosen.{Fills}
use Rattle.lt_memdev.proofs.image.fill.Given as goal

-- the numbers so far are filled
abbrev pub invariant-loop-number : goal.invariant-loop-number
invariant-loop-number l = Fills l.initial.files l.files l.number (Some l.bytes)
