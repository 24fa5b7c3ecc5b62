use Rattle.std.proofs.Common.{◌≡◌, ◌++◌, drop}
use Rattle.std.specs.Prelude.{IsTrue}
use Rattle.std.specs.List.{list_all}
use Rattle.lt_schema.specs.Versions.{schema_at, are_admitted}
use Rattle.lt_desc.specs.Lawful.{fits_change}
use Rattle.lt_desc.specs.Spelling.{changes_spelled}
use Rattle.lt_desc.proofs.encoding.put_changes.Given as goal

abbrev pub invariant-loop-ver : goal.invariant-loop-ver
invariant-loop-ver l = record {
  put : l.out.items ++ changes_spelled (schema_at l.schemas l.ver) (drop l.ver l.schemas.changes) ≡ l.initial.out.items ++ changes_spelled l.schemas.first l.schemas.changes;
  admitted : IsTrue (are_admitted (schema_at l.schemas l.ver) (drop l.ver l.schemas.changes));
  fits : list_all fits_change (drop l.ver l.schemas.changes) ≡ list_all fits_change l.schemas.changes;
}
