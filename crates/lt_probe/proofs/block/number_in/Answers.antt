use Rattle.std.proofs.Common.{◌≡◌, ℕ, true, false, eqb, List, ap, ◌∙◌, arith}
use Rattle.std.specs.Cmp.Lexicographic.{pointwise}
use Rattle.lt_layout.proofs.Asked.{bytes_same}
use Rattle.std.specs.Prelude.{count_by}
use Rattle.lt_rec.specs.Boxes.{is_below}
use Rattle.lt_rec.specs.declared.cut.Cut.{Cut}
use Rattle.lt_probe.proofs.Keys.{none_below, none_behind}
use Rattle.lt_probe.proofs.block.number_in.Goals as goal

pub returns-then-place-count-clause-none : goal.returns-then-place-count-clause-none
returns-then-place-count-clause-none c =
    let recs = c.args.block.now in
    let counted = c.seek-place.ensures.exact ∙ ap (λ (cut : Cut). count_by (λ r. is_below cut r.key) recs) c.requires.cut in
    none_below recs c.args.key.now c.count.ensures.block (omega (arith, counted, c.count.ensures.value))

pub returns-else-eq-clause-none : goal.returns-else-eq-clause-none
returns-else-eq-clause-none c =
    let recs = c.args.block.now in
    let counted = c.seek-place.ensures.exact ∙ ap (λ (cut : Cut). count_by (λ r. is_below cut r.key) recs) c.requires.cut in
    none_behind recs c.args.key.now c.get-rec.result c.count.ensures.block c.seek-place.result counted (omega (arith, c.count.ensures.value)) c.get-rec.ensures.value
    (λ same.
    let clash : false ≡ true = c.if-eq.ensures ∙ ap (λ (k : List ℕ). pointwise eqb k c.args.key.now) (c.key.ensures.value ∙ same) ∙ bytes_same c.args.key.now in
    absurd cc)
