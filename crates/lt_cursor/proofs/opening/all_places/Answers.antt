use Rattle.std.proofs.Common.{◌≡◌, ◌<◌, ◌++◌, ◌∷◌, [], sym, subst, inl, inr, arith}
use Rattle.std.specs.List.{All, Contains}
use Rattle.std.proofs.lemmas.Bool.{cases_lt}
use Rattle.std.proofs.lemmas.List.Elements.{All-push, Contains-append_left, Contains-push}
use Rattle.lt_cursor.proofs.opening.all_places.Goals as goal

pub loop-at-preserved : goal.loop-at-preserved
loop-at-preserved c =
    let old = c.loop-at.places.items in
    let at = c.loop-at.at in
    record {
      within = subst (All (λ i. i < c.args.count)) (sym c.in_ok-push.ensures.items) (All-push (λ i. i < c.args.count) old at c.loop-at.invariant.within c.loop-at-test.true);
      all = λ j w. subst (λ xs. Contains xs j) (sym c.in_ok-push.ensures.items) (elim (cases_lt j at) [
        | inl low ↦ Contains-append_left old (at ∷ []) j (c.loop-at.invariant.all j low)
        | inr up ↦ let same : at ≡ j = omega (arith, w, up) in subst (Contains (old ++ at ∷ [])) same (Contains-push old at)
      ]);
    }
