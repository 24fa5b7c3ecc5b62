use Rattle.std.proofs.Common.{◌≡◌, ◌≢◌, ℕ, ◌+◌, ◌<◌, ◌≤◌, Bool, true, length, take, get_or, sym, subst, ap, ◌∙◌, arith}
use Rattle.std.specs.List.Sorted.{IsPermutation}
use Rattle.lt_deps.specs.Kept.{StandsFor, AreDistinct}
use Rattle.lt_deps.proofs.Least.{closure_of, alone, front_distinct}
use Rattle.lt_deps.proofs.deps.Deps.closure.Goals as goal

pub returns-in_default : goal.returns-in_default
returns-in_default c = record {
  ok = λ notes h.
      let i = c.self.inside in
      let fresh : (k : ℕ) → k < length i.tablets.items → get_or i.tablets.items k 0 ≢ c.args.tablet = subst (λ xs. (k : ℕ) → k < length xs → get_or xs k 0 ≢ c.args.tablet) c.as_slice.ensures.value c.in_default.ensures.none in
      rw c.in_ok-from_slice.ensures.items
      (alone i.tablets.items i.ahead.items i.last c.args.tablet notes (subst (λ v. StandsFor v notes) (sym c.self.view_is) h) fresh);
}

pub returns : goal.returns
returns c = record {
  ok = λ notes h.
      let i = c.self.inside in
      let place = c.in-Some.place in
      let count = c.front_of-count.result in
      let slice = c.as_slice-2.ensures.value in
      let held : place < length i.tablets.items = subst (λ xs. place < length xs) c.as_slice.ensures.value c.in-Some.ensures.found.0 in
      let here : get_or i.tablets.items place 0 ≡ c.args.tablet = subst (λ xs. get_or xs place 0 ≡ c.args.tablet) c.as_slice.ensures.value c.in-Some.ensures.found.1 in
      let paired : length i.ahead.items ≡ length i.tablets.items = c.self.invariant.0.paired in
      let within : count ≤ length i.ahead.items = subst (λ xs. count ≤ length xs) slice c.front_of-count.ensures.within in
      let closed : (j : ℕ) → j < count → j + get_or i.ahead.items j 0 < count = subst (λ xs. (j : ℕ) → j < count → j + get_or xs j 0 < count) slice c.front_of-count.ensures.closed in
      let least : (p : ℕ → Bool) → ((k : ℕ) → k ≤ place → p k ≡ true) → ((k j : ℕ) → j < length i.ahead.items → p j ≡ true → k ≤ j + get_or i.ahead.items j 0 → p k ≡ true) → (k : ℕ) → k < count → p k ≡ true =
      subst (λ xs. (p : ℕ → Bool) → ((k : ℕ) → k ≤ place → p k ≡ true) → ((k j : ℕ) → j < length xs → p j ≡ true → k ≤ j + get_or xs j 0 → p k ≡ true) → (k : ℕ) → k < count → p k ≡ true) slice c.front_of-count.ensures.least in
      let front : c.split_at.result.0.now ≡ take count i.tablets.items = c.split_at.ensures.front ∙ ap (take count) c.as_slice-3.ensures.value in
      let k = subst (λ v. StandsFor v notes) (sym c.self.view_is) h in
      let rises = c.in_ok-found.ensures.rising (subst AreDistinct (sym front) (front_distinct i.tablets.items count k.distinct)) in
      closure_of i.tablets.items i.ahead.items i.last notes k
      place count c.args.tablet c.in_ok-found.found.items paired held here (omega arith) c.front_of-count.ensures.holds closed least
      (subst (λ xs. IsPermutation xs c.in_ok-found.found.items) front c.in_ok-found.ensures.same) rises;
}
