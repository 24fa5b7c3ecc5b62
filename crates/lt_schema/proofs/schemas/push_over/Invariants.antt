use Rattle.std.proofs.Common.{◌≡◌, drop}
use Rattle.lt_schema.specs.Versions.{lifted_over}
use Rattle.lt_schema.proofs.schemas.push_over.Given as goal

-- the changes that are left lead where all lead
abbrev pub invariant-loop-change : goal.invariant-loop-change
invariant-loop-change l = record {
  left : lifted_over (drop l.change-index l.changes) l.rows.row ≡ lifted_over l.changes l.fn.rows.row;
  whole : l.rows.rows ≡ l.fn.rows.rows;
}
