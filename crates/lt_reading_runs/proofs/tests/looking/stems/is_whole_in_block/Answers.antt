use Rattle.std.proofs.Common.{◌≡◌, true, get_or, sym, ap, subst, ◌∙◌, arith, inl, inr}
use Rattle.std.proofs.lemmas.Bool.{cases_lt}
use Rattle.std.proofs.lemmas.List.{get_or_default}
use Rattle.lt_rec.specs.Bytes.{begins_with}
use Rattle.lt_rec.specs.Record.{Record, stem_of}
use Rattle.lt_reading_runs.proofs.tests.looking.stems.is_whole_in_block.Goals as goal

pub loop-at-preserved : goal.loop-at-preserved
loop-at-preserved c = λ i d h begins.
    let recs = c.args.block.now in
    let at = c.loop-at.at in
    let bytes = c.args.bytes.now in
    elim (cases_lt i at) [
      | inl low ↦ c.loop-at.invariant i d low begins
      | inr up ↦
          let same : at ≡ i = omega (arith, h, up) in
          let rec : Record = c.get-rec.result in
          let here : get_or recs at d ≡ rec = get_or_default recs at d rec (omega (arith, c.loop-at-test.true, c.count-at-end.ensures.value)) ∙ c.get-rec.ensures.value in
          let is : rec ≡ get_or recs i d = sym here ∙ ap (λ j. get_or recs j d) same in
          subst (λ (r : Record). begins_with r.key bytes ≡ true → stem_of r.key ≡ bytes) is
          (subst (λ k. begins_with k bytes ≡ true → stem_of k ≡ bytes) c.key.ensures.value (c.is_whole_in_key.ensures c.if-not-is_whole_in_key.false)) begins
    ]
