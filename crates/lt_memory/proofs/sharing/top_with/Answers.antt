use Rattle.std.proofs.Common.{◌≡◌, Bool, true, false, ◌++◌, [], ◌∷◌, Option, sym, subst, arith}
use Rattle.std.specs.Prelude.{ℕ}
use Rattle.lt_rec.specs.Closure.{has}
use Rattle.lt_memory.specs.Sharing.{TopOf, is_part}
use Rattle.lt_memory.proofs.Spans.{top_other, top_more}
use Rattle.lt_memory.proofs.sharing.top_with.Goals as goal

pub returns-then-not-holds : goal.returns-then-not-holds
returns-then-not-holds c = λ tablets so.
    let other : is_part c.args.parts.now c.args.tablet.now ≡ false = grind arith in
    top_other tablets c.args.parts.now c.args.tablet.now c.args.top other so

pub returns : goal.returns
returns c = λ tablets so.
    let part : is_part c.args.parts.now c.args.tablet.now ≡ true = grind arith in
    subst (λ (top : Option ℕ). TopOf (tablets ++ c.args.tablet.now ∷ []) c.args.parts.now top) (sym c.greater.ensures)
    (top_more tablets c.args.parts.now c.args.tablet.now c.args.top c.last.result part c.last.ensures.greatest c.last.ensures.none so)
