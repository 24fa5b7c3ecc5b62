use Rattle.std.proofs.Common.{sym, subst}
use Rattle.std.specs.Prelude.{IsTrue}
use Rattle.std.proofs.lemmas.Str.{is_utf8-from_IsUtf8}
use Rattle.lt_schema.specs.declared.value.Value.{Value}
use Rattle.lt_desc.specs.Lawful.{fits_value}
use Rattle.lt_desc.proofs.spelled.put_value.Goals as goal

pub returns-in_ok-put_counted-in-Text-clause-fits : goal.returns-in_ok-put_counted-in-Text-clause-fits
returns-in_ok-put_counted-in-Text-clause-fits c = subst (λ (v : Value). IsTrue (fits_value v)) (sym c.in-Text.is) (is_utf8-from_IsUtf8 c.in-Text.text c.as_slice.ensures.utf8)
