use Rattle.std.proofs.Common.{◌<◌, true, ℕ, length, map, filter, sym, ap, subst, arith}
use Rattle.std.specs.Arc.{arc_value}
use Rattle.std.specs.List.{Contains}
use Rattle.std.proofs.lemmas.List.{length-map}
use Rattle.std.specs.List.Sorted.{IsPermutation}
use Rattle.lt_rec.specs.Boxes.{in_box}
use Rattle.lt_cursor.specs.Boxed.{gathered}
use Rattle.lt_cursor.specs.Order.{IsInOrder, HaveDistinctKeys}
use Rattle.lt_cursor.specs.Strands.{left_of}
use Rattle.lt_cursor.specs.Merging.{Merging, IsSoundMerging, coming_of}
use Rattle.lt_cursor.proofs.Starting.{start_sound, start_sorted, start_exact}
use Rattle.lt_cursor.proofs.cursor.Cursor.new.Goals as goal

pub invariant_of-result : goal.invariant_of-result
invariant_of-result g c = λ honest.
    let a = c.args in
    let distinct : HaveDistinctKeys (gathered true (map arc_value a.tablets.items) a.mems.items) = subst (λ b. HaveDistinctKeys (gathered b (map arc_value a.tablets.items) a.mems.items)) honest c.requires.distinct in
    let ts = map arc_value a.tablets.items in
    let strands = c.in_ok-sources.sources.items in
    let all : (at : ℕ) → at < length (map (left_of a.raw_box) strands) → Contains c.in_ok-waiting.waiting.items at =
    λ at w. c.in_ok-waiting.ensures.all at (omega (arith, w, length-map strands (left_of a.raw_box), ap length c.as_slice.ensures.value)) in
    subst (λ (m : Merging). IsSoundMerging m m.waiting) (sym c.new.ensures)
    (start_sound a.raw_box a.down ts a.mems.items (map (left_of a.raw_box) strands) (c.in_ok-sources.ensures.records honest) c.in_ok-waiting.waiting.items all (c.in_ok-sources.ensures.ordered honest) c.requires.ordered distinct)

pub returns-clause-sorted : goal.returns-clause-sorted
returns-clause-sorted g c = λ honest.
    let a = c.args in
    let distinct : HaveDistinctKeys (gathered true (map arc_value a.tablets.items) a.mems.items) = subst (λ b. HaveDistinctKeys (gathered b (map arc_value a.tablets.items) a.mems.items)) honest c.requires.distinct in
    subst (λ (m : Merging). IsInOrder a.down (coming_of m)) (sym c.new.ensures) (start_sorted a.raw_box a.down (map arc_value a.tablets.items) a.mems.items (map (left_of a.raw_box) c.in_ok-sources.sources.items) (c.in_ok-sources.ensures.records honest) distinct)

pub returns-clause-exact : goal.returns-clause-exact
returns-clause-exact g c = λ honest.
    let a = c.args in
    let ts = map arc_value a.tablets.items in
    subst (λ (m : Merging). IsPermutation (coming_of m) (filter (in_box a.raw_box) (gathered true ts a.mems.items))) (sym c.new.ensures)
    (start_exact a.raw_box a.down ts a.mems.items (map (left_of a.raw_box) c.in_ok-sources.sources.items) (c.in_ok-sources.ensures.records honest))
