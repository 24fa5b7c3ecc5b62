use Rattle.std.proofs.Common.{◌≡◌, ◌++◌, drop}
use Rattle.std.specs.Prelude.{IsTrue}
use Rattle.std.specs.List.{flat_map, list_all}
use Rattle.lt_schema.specs.Lawful.{has_lawful_default}
use Rattle.lt_desc.specs.Lawful.{fits_column}
use Rattle.lt_desc.specs.Spelling.{column_spelled}
use Rattle.lt_desc.proofs.encoding.put_columns.Given as goal

abbrev pub invariant-loop-column : goal.invariant-loop-column
invariant-loop-column l = record {
  put : l.out.items ++ flat_map column_spelled (drop l.column-index l.columns) ≡ l.initial.out.items ++ flat_map column_spelled l.columns;
  lawful : IsTrue (list_all has_lawful_default (drop l.column-index l.columns));
  fits : list_all fits_column (drop l.column-index l.columns) ≡ list_all fits_column l.columns;
}
