use Rattle.std.proofs.Common.{◌≡◌, take}
use Rattle.lt_schema.proofs.schemas.SchemasClone.clone.Given as goal

-- the versions so far are copied
abbrev pub invariant-loop-schema : goal.invariant-loop-schema
invariant-loop-schema l = l.versions.items ≡ take l.schema-index l.schema-items

-- the changes so far are copied
abbrev pub invariant-loop-change : goal.invariant-loop-change
invariant-loop-change l = l.changes.items ≡ take l.change-index l.change-items
