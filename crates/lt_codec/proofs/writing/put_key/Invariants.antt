use Rattle.std.proofs.Common.{◌≡◌, ◌++◌, drop}
use Rattle.std.specs.List.{list_all}
use Rattle.lt_codec.specs.Spelling.{in_key, spelled_by}
use Rattle.lt_codec.specs.Ordering.{fits_word, is_text}
use Rattle.lt_codec.proofs.writing.put_key.Given as goal

-- the values so far are put
abbrev pub invariant-loop-at : goal.invariant-loop-at
invariant-loop-at l = record {
  put : l.out.items ++ spelled_by in_key (drop l.at l.columns) (drop l.at l.values) ≡ l.initial.out.items ++ spelled_by in_key l.columns l.values;
  words : list_all fits_word (drop l.at l.values) ≡ list_all fits_word l.values;
  texts : list_all is_text (drop l.at l.values) ≡ list_all is_text l.values;
}
