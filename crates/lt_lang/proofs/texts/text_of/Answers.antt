use Rattle.std.proofs.Common.{sym, ap, ◌∙◌, Some}
use Rattle.lt_lang.proofs.Utf8.{utf8_of-yes, utf8_of-no}
use Rattle.lt_lang.proofs.texts.text_of.Goals as goal

pub returns-in-Ok : goal.returns-in-Ok
returns-in-Ok c = let h = c.in-Ok.ensures.cases in utf8_of-yes c.args.bytes.now h.1 ∙ ap Some (sym h.0)

pub returns-in-Err : goal.returns-in-Err
returns-in-Err c = let h = c.in-Err.ensures.cases in utf8_of-no c.args.bytes.now h.0
