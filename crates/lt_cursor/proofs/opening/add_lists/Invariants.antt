use Rattle.std.proofs.Common.{◌≡◌, ◌++◌, map}
use Rattle.std.specs.List.{sum_by}
use Rattle.lt_cursor.specs.Opening.{lefts_of_lists}
use Rattle.lt_cursor.specs.Strands.{Strand, left_of}
use Rattle.lt_cursor.proofs.opening.add_lists.Given as goal

-- a source for each list so far
abbrev pub invariant-loop-list : goal.invariant-loop-list
invariant-loop-list g l = record {
  blocks : sum_by (λ (s : Strand). s.blocks) l.sources.items ≡ sum_by (λ (s : Strand). s.blocks) l.initial.sources.items;
  records : map (left_of l.raw_box) l.sources.items ≡ map (left_of l.raw_box) l.initial.sources.items ++ lefts_of_lists l.raw_box l.yielded;
}
