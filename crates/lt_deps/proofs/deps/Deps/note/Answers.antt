use Rattle.std.proofs.Common.{◌≡◌, ◌≢◌, ℕ, ◌<◌, length, get_or, max, sym, subst, ap, ◌∙◌, arith}
use Rattle.std.proofs.lemmas.Grind.{get_or_default_zero}
use Rattle.lt_deps.specs.Kept.{StandsFor}
use Rattle.lt_deps.proofs.Notes.{noted_again, noted_first}
use Rattle.lt_deps.proofs.deps.Deps.note.Goals as goal

pub returns-in-Some-clause-noted : goal.returns-in-Some-clause-noted
returns-in-Some-clause-noted c = λ notes h.
    let i = c.self.inside in
    let place = c.in-Some.place in
    let held : place < length i.tablets.items = subst (λ xs. place < length xs) c.as_slice.ensures.value c.in-Some.ensures.found.0 in
    let here : get_or i.tablets.items place 0 ≡ c.args.tablet = subst (λ xs. get_or xs place 0 ≡ c.args.tablet) c.as_slice.ensures.value c.in-Some.ensures.found.1 in
    let paired : length i.ahead.items ≡ length i.tablets.items = c.self.invariant.0.paired in
    let read : c.index.result.now ≡ get_or i.ahead.items place 0 = c.index.ensures ∙ get_or_default_zero i.ahead.items place c.index.result.now (omega arith) in
    noted_again i.tablets.items i.ahead.items i.last place c.args.tablet c.max-ahead.result notes
    (subst (λ v. StandsFor v notes) (sym c.self.view_is) h) paired held here
    (c.max-ahead.ensures ∙ ap (λ a. max a c.saturating_sub.result) read ∙ ap (λ a. max (get_or i.ahead.items place 0) a) c.saturating_sub.ensures)

pub returns-in-Ok-Ok-clause-noted : goal.returns-in-Ok-Ok-clause-noted
returns-in-Ok-Ok-clause-noted c = λ notes h.
    let i = c.self.inside in
    let fresh : (k : ℕ) → k < length i.tablets.items → get_or i.tablets.items k 0 ≢ c.args.tablet = subst (λ xs. (k : ℕ) → k < length xs → get_or xs k 0 ≢ c.args.tablet) c.as_slice.ensures.value c.in-None.ensures.none in
    rw (c.in-Ok-Ok.ensures.items, c.in-Ok-Ok.ensures'.items, c.as_slice-place.ensures.value)
    (noted_first i.tablets.items i.ahead.items i.last c.args.tablet notes (subst (λ v. StandsFor v notes) (sym c.self.view_is) h) c.self.invariant.0.paired fresh)
