use Rattle.std.proofs.Common.{◌≡◌, ◌≤◌, ◌++◌, drop}
use Rattle.std.specs.Prelude.{None}
use Rattle.std.specs.List.{list_all}
use Rattle.lt_schema.specs.Check.{wrong_kind_from, len_under}
use Rattle.lt_codec.specs.Spelling.{in_body, spelled_by}
use Rattle.lt_codec.specs.Ordering.{fits_word, is_text}
use Rattle.lt_codec.proofs.writing.put_body.Given as goal

-- the values so far are put, and the others are still of their kinds and small
abbrev pub invariant-loop-at : goal.invariant-loop-at
invariant-loop-at l = record {
  put : l.out.items ++ spelled_by in_body (drop l.at l.columns) (drop l.at l.values) ≡ l.initial.out.items ++ spelled_by in_body l.columns l.values;
  kinds : wrong_kind_from l.at (drop l.at l.columns) (drop l.at l.values) ≡ None;
  small : len_under (drop l.at l.columns) (drop l.at l.values) ≤ 60000;
  words : list_all fits_word (drop l.at l.values) ≡ list_all fits_word l.values;
  texts : list_all is_text (drop l.at l.values) ≡ list_all is_text l.values;
}
