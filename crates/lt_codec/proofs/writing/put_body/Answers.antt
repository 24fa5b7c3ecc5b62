use Rattle.std.proofs.Common.{◌++◌, ℕ, List, ap, sym, ◌∙◌, append-nil}
use Rattle.lt_codec.specs.Spelling.{in_body}
use Rattle.lt_codec.proofs.Lengths.{spelled_end}
use Rattle.lt_codec.proofs.writing.put_body.Goals as goal

pub returns-clause-value : goal.returns-clause-value
returns-clause-value c =
    let i = c.loop-at.at in
    let none = spelled_end in_body c.args.columns.now c.args.values.now i c.loop-at-test.false in
    sym (append-nil c.loop-at.out.items) ∙ ap (λ (r : List ℕ). c.loop-at.out.items ++ r) (sym none) ∙ c.loop-at.invariant.put
