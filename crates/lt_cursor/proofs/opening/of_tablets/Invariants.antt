use Rattle.std.proofs.Common.{◌≡◌, true, map}
use Rattle.std.specs.List.{sum_by}
use Rattle.std.specs.Arc.{arc_value}
use Rattle.lt_cursor.specs.Boxed.{range_lens}
use Rattle.lt_cursor.specs.Opening.{lefts_of_tablets, AreInOrder}
use Rattle.lt_cursor.specs.Strands.{Strand, left_of}
use Rattle.lt_cursor.proofs.opening.of_tablets.Given as goal

-- a source for each tablet so far
abbrev pub invariant-loop-tablet : goal.invariant-loop-tablet
invariant-loop-tablet g l = record {
  blocks : sum_by (λ (s : Strand). s.blocks) l.sources.items ≡ range_lens l.raw_box (map arc_value l.yielded);
  records : g.V.Device.honest ≡ true → map (left_of l.raw_box) l.sources.items ≡ lefts_of_tablets l.raw_box l.down (map arc_value l.yielded);
  ordered : g.V.Device.honest ≡ true → AreInOrder l.down (map arc_value l.yielded);
}
