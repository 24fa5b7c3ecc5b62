use Rattle.std.proofs.Common.{subst, arith}
use Rattle.lt_loading.proofs.Reading.{row_is, are_bytes, AreBytes}
use Rattle.lt_loading.proofs.rows.is_row.Goals as goal

pub returns-in-Ok-clause-row : goal.returns-in-Ok-clause-row
returns-in-Ok-clause-row c = λ _.
    row_is c.rows_have_one_spelling.ensures.only c.args.schemas.now c.args.rec.now c.in-Ok._row c.newest_version-newest.ensures.lawful c.stored-stored.ensures.lawful
    (subst AreBytes c.requires.key (are_bytes c.args.key.now (λ i. omega (arith, c.type_inv.key i)))) (subst AreBytes c.requires.body (are_bytes c.args.body.now (λ i. omega (arith, c.type_inv.body i)))) c.in-Ok.ensures.exact
