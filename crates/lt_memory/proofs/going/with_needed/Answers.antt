use Rattle.std.proofs.Common.{◌≡◌, ℕ, List, sym, subst, ap, ◌∙◌}
use Rattle.std.specs.Prelude.{filter}
use Rattle.std.specs.List.Sorted.{IsStrictlyIncreasing}
use Rattle.std.proofs.lemmas.List.Kept.{IsStrictlyIncreasing-filter}
use Rattle.lt_rec.specs.Closure.{has, IsClosed}
use Rattle.lt_memory.specs.Waiting.{HasAll, numbers_of}
use Rattle.lt_memory.proofs.Numbers.{closed_among, has_both, has_passes, has_was}
use Rattle.lt_memory.proofs.going.with_needed.Goals as goal

pub returns : goal.returns
returns c =
    let numbers = numbers_of c.args.tablets.now in
    let needed = c.in_ok-needed.needed.items in
    let is : c.in_ok-found.found.items ≡ filter (has needed) numbers = c.in_ok-found.ensures ∙ ap (λ (xs : List ℕ). filter (has xs) numbers) c.as_slice.ensures.value in
    record {
      rising = subst IsStrictlyIncreasing (sym is) (IsStrictlyIncreasing-filter (has needed) numbers c.requires.rising);
      held = subst (λ (ns : List ℕ). HasAll ns numbers) (sym is) (λ n e. has_was (has needed) numbers n e);
      named = λ notes h. subst (λ (ns : List ℕ). HasAll c.args.named.now ns) (sym is) (λ n e. has_both (has needed) numbers n (c.in_ok-needed.ensures.named notes h n e) (c.requires.held n e));
      closed = λ notes h noted. subst (λ (ns : List ℕ). IsClosed notes ns) (sym is) (closed_among notes numbers needed noted (c.in_ok-needed.ensures.closed notes h));
      least = λ notes other h k all. subst (λ (ns : List ℕ). HasAll ns other) (sym is) (λ n e. c.in_ok-needed.ensures.least notes other h k all n (has_passes (has needed) numbers n e));
    }
