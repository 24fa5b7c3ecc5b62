use Rattle.std.proofs.Common.{ap, sym, ◌∙◌, refl}
use Rattle.std.proofs.lemmas.Str.{is_utf8-from_IsUtf8}
use Rattle.lt_desc.proofs.Names.{not_utf8}
use Rattle.lt_rec.proofs.Reading.{done}
use Rattle.lt_desc.proofs.columns.text_of.Goals as goal

pub returns-in_ok-copy_of-in-Ok : goal.returns-in_ok-copy_of-in-Ok
returns-in_ok-copy_of-in-Ok c =
    let is = is_utf8-from_IsUtf8 c.args.bytes.now c.in-Ok.ensures.cases.1 in
    rw is (record { exact = ap done (sym (c.in_ok-copy_of-in-Ok.ensures ∙ c.in-Ok.ensures.cases.0)) })

pub returns-in-Err : goal.returns-in-Err
returns-in-Err c = let is = not_utf8 c.args.bytes.now c.in-Err.ensures.cases.0 in rw is (record { exact = refl })
