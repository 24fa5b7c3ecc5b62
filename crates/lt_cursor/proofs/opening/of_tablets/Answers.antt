use Rattle.std.proofs.Common.{◌≡◌, ◌++◌, ◌∷◌, ◌+◌, [], filter, map, sym, ap, subst, ◌∙◌}
use Rattle.std.specs.Arc.{arc_value}
use Rattle.std.specs.List.{sum_by}
use Rattle.std.proofs.lemmas.List.{map-append}
use Rattle.std.proofs.lemmas.List.Elements.{All-push}
use Rattle.std.proofs.lemmas.List.Sums.{sum_by_push}
use Rattle.lt_rec.specs.Boxes.{in_box}
use Rattle.lt_tablet.specs.Loaded.{Loaded, records_in}
use Rattle.lt_cursor.specs.Boxed.{range_len, range_lens}
use Rattle.lt_cursor.specs.Opening.{lefts_of_tablets, AreInOrder}
use Rattle.lt_cursor.specs.Order.{in_order, IsInOrder}
use Rattle.lt_cursor.specs.Strands.{Strand, left_of}
use Rattle.lt_cursor.proofs.opening.of_tablets.Goals as goal

pub loop-tablet-preserved : goal.loop-tablet-preserved
loop-tablet-preserved g c =
    let raw_box = c.args.raw_box.now in
    let ts = map arc_value c.loop-tablet.yielded in
    let t : Loaded = arc_value c.in-Some.tablet in
    let more : map arc_value (c.loop-tablet.yielded ++ c.in-Some.tablet ∷ []) ≡ ts ++ t ∷ [] = map-append arc_value c.loop-tablet.yielded (c.in-Some.tablet ∷ []) in
    record {
      blocks = ap (sum_by (λ (s : Strand). s.blocks)) c.in_ok-push.ensures.items
          ∙ sum_by_push (λ (s : Strand). s.blocks) c.loop-tablet.sources.items c.of_tablet.result
          ∙ (λ i. c.loop-tablet.invariant.blocks i + c.of_tablet.ensures.blocks i)
          ∙ sym (ap (range_lens raw_box) more ∙ sum_by_push (range_len raw_box) ts t);
      records = λ honest. ap (map (left_of raw_box)) c.in_ok-push.ensures.items
          ∙ map-append (left_of raw_box) c.loop-tablet.sources.items (c.of_tablet.result ∷ [])
          ∙ (λ i. c.loop-tablet.invariant.records honest i ++ c.of_tablet.ensures.records honest i ∷ [])
          ∙ sym (ap (lefts_of_tablets raw_box c.args.down) more ∙ map-append (λ t. filter (in_box raw_box) (in_order c.args.down (records_in t))) ts (t ∷ []));
      ordered = λ honest. subst (AreInOrder c.args.down) (sym more) (All-push (λ t. IsInOrder c.args.down (in_order c.args.down (records_in t))) ts t (c.loop-tablet.invariant.ordered honest) (c.of_tablet.ensures.ordered honest));
    }
