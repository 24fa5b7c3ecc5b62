use Rattle.std.proofs.Common.{◌≡◌, ◌≤◌, ℕ, List, length, take, sym, ap, subst, ◌∙◌, arith}
use Rattle.std.specs.Prelude.{IfOk}
use Rattle.std.proofs.lemmas.List.{take_all}
use Rattle.lt_rec.specs.Record.{Record, stored_len}
use Rattle.lt_merge.proofs.Whole.{no_more, all_pass}
use Rattle.lt_merge.proofs.flushing.all_of.Goals as goal

pub returns-in-Some-clause-all : goal.returns-in-Some-clause-all
returns-in-Some-clause-all c =
    let recs = c.args.recs.now in
    let span = c.in-Some.ensures in
    let few : length recs ≤ c.bytes.result = subst (λ (n : ℕ). length recs ≤ n) (sym c.bytes.ensures) (no_more stored_len (λ r. omega arith) recs) in
    subst (λ (all : List Record). IfOk c.walk.result (λ list. list ≡ all))
    (ap (take c.bytes.result) (all_pass c.in-Some.from c.in-Some.to recs span.above span.below) ∙ take_all c.bytes.result recs few)
    c.walk.ensures.exact
