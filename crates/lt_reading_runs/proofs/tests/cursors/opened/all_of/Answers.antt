use Rattle.std.proofs.Common.{◌≡◌, ◌+◌, ◌++◌, ◌∷◌, [], List, map, take, sym, ap, ◌∙◌, append_assoc, append-nil}
use Rattle.std.specs.Arc.{arc_value}
use Rattle.std.proofs.lemmas.List.{take_more, map-append}
use Rattle.lt_rec.specs.Record.{Record}
use Rattle.lt_rec.specs.Records.{joined}
use Rattle.lt_tablet.specs.Loaded.{records_in}
use Rattle.lt_cursor.proofs.Behind.{joined-append}
use Rattle.lt_reading_runs.proofs.tests.cursors.opened.all_of.Goals as goal

one_more : (ls : List (List Record)) (l : List Record) → joined (ls ++ l ∷ []) ≡ joined ls ++ l
one_more ls l = joined-append ls (l ∷ []) ∙ ap (λ xs. joined ls ++ xs) (append-nil l)

pub loop-tablet-preserved : goal.loop-tablet-preserved
loop-tablet-preserved g c = λ honest.
    let ts = take c.loop-tablet.tablet-index c.args.tablets.now in
    let t = c.tablet-item.result in
    let all = map records_in (map arc_value ts) in
    let more : map records_in (map arc_value (take (c.loop-tablet.tablet-index + 1) c.args.tablets.now)) ≡ all ++ records_in (arc_value t) ∷ [] =
    ap (λ xs. map records_in (map arc_value xs)) (take_more c.args.tablets.now c.loop-tablet.tablet-index t c.loop-tablet-test.true ∙ ap (λ x. ts ++ x ∷ []) (sym c.tablet-item.is))
    ∙ ap (map records_in) (map-append arc_value ts (t ∷ [])) ∙ map-append records_in (map arc_value ts) (arc_value t ∷ []) in
    c.in_ok-add_tablet.ensures honest ∙ (λ i. c.loop-tablet.invariant honest i ++ records_in (c.deref.ensures i)) ∙ sym (ap joined more ∙ one_more all (records_in (arc_value t)))

pub loop-list-preserved : goal.loop-list-preserved
loop-list-preserved g c = λ honest.
    let ls = take c.loop-list.list-index c.args.lists.now in
    let front = joined (map records_in (map arc_value c.args.tablets.now)) in
    let more : joined (take (c.loop-list.list-index + 1) c.args.lists.now) ≡ joined ls ++ c.list-item.result =
    ap joined (take_more c.args.lists.now c.loop-list.list-index c.list-item.result c.loop-list-test.true ∙ ap (λ x. ls ++ x ∷ []) (sym c.list-item.is)) ∙ one_more ls c.list-item.result in
    c.in_ok-add_list.ensures ∙ ap (λ xs. xs ++ c.list-item.result) (c.loop-list.invariant honest) ∙ append_assoc front (joined ls) c.list-item.result ∙ ap (λ xs. front ++ xs) (sym more)
