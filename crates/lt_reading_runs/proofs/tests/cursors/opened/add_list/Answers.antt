use Rattle.std.proofs.Common.{◌++◌, sym, ap, ◌∙◌, append-nil}
use Rattle.lt_cursor.proofs.Behind.{no_first}
use Rattle.lt_reading_runs.proofs.tests.cursors.opened.add_list.Goals as goal

pub returns : goal.returns
returns c =
    let none = no_first c.loop-rec.left (sym c.in_default.ensures) in
    sym (append-nil c.loop-rec.all.items) ∙ ap (λ xs. c.loop-rec.all.items ++ xs) (sym none) ∙ c.loop-rec.invariant ∙ ap (λ xs. c.args.all.now.items ++ xs) (sym c.in_ok-left.ensures.cases)
