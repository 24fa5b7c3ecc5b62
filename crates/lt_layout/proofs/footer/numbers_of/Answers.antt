use Rattle.std.proofs.Common.{sym, ◌∙◌}
use Rattle.std.proofs.lemmas.Result.{err_from_is_err_and}
use Rattle.lt_layout.proofs.Expected.{numbers_short}
use Rattle.lt_layout.proofs.footer.numbers_of.Goals as goal

pub returns-in_err-found : goal.returns-in_err-found
returns-in_err-found c =
    let p = err_from_is_err_and c.from_residual.result c.from_residual.ensures.1 in
    let e = numbers_short c.args.wanted.now c.loop-number.number-index c.loop-number.place c.in_err-found.field-0.0.at c.loop-number.rest.now c.loop-number-test.true c.in_err-found.ensures.exact in
    record { exact = rw (p.1, p.2) (sym c.loop-number.invariant.1 ∙ e) }
