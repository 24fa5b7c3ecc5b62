use Rattle.std.proofs.Common.{◌≡◌, map, take, filter}
use Rattle.lt_plain.specs.Table.{is_shown}
use Rattle.lt_plain.proofs.pages.found.Given as goal

-- what was found so far
abbrev pub invariant-loop-numbered : goal.invariant-loop-numbered
invariant-loop-numbered l = map (λ numbered. numbered.now) l.found.items ≡ filter (is_shown l.schema l.query l.since) (take l.numbered-index l.rows)
