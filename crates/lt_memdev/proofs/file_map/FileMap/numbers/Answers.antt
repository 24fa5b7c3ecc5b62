use Rattle.std.proofs.Common.{◌≡◌, ◌++◌, sym, ◌∙◌, ap, subst}
use Rattle.std.proofs.lemmas.List.{append-nil}
use Rattle.std.proofs.lemmas.Map.Keys.{IsStrictlyIncreasing-from_sorted}
use Rattle.std.specs.List.Sorted.{IsStrictlyIncreasing}
use Rattle.std.specs.Map.{keys_of}
use Rattle.lt_memdev.proofs.file_map.FileMap.numbers.Goals as goal

pub returns-clause-rising : goal.returns-clause-rising
returns-clause-rising c =
    let all : c.from_vec.result ≡ keys_of c.self.inside.files.entries =
    c.from_vec.ensures ∙ sym (append-nil c.loop-number.numbers.items) ∙ ap (λ rest. c.loop-number.numbers.items ++ rest) (sym c.in-None.ensures.steps.0) ∙ c.loop-number.invariant ∙ ap keys_of (sym c.self.view_is) in
    subst IsStrictlyIncreasing (sym all) (IsStrictlyIncreasing-from_sorted (keys_of c.self.inside.files.entries) c.keys-number-items.ensures.ordered)
