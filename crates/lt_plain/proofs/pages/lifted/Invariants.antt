use Rattle.std.proofs.Common.{◌≡◌, [], map, take}
use Rattle.lt_plain.specs.Table.{under_newest}
use Rattle.lt_plain.proofs.pages.lifted.Given as goal

-- the rows so far are lifted
abbrev pub invariant-loop-numbered : goal.invariant-loop-numbered
invariant-loop-numbered l = l.rows ≡ record { rows = map (λ numbered. under_newest l.schemas numbered.now) (take l.numbered-index l.found); row = [] }
