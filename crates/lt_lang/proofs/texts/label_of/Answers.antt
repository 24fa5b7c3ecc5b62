use Rattle.std.proofs.Common.{◌≡◌, sym, ap, ◌∙◌, Some, subst}
use Rattle.std.specs.Str.{IsUtf8}
use Rattle.lt_lang.proofs.Utf8.{utf8_of-yes, utf8_of-no}
use Rattle.lt_lang.proofs.texts.label_of.Goals as goal

pub returns-in-Ok : goal.returns-in-Ok
returns-in-Ok c =
    let same : c.from_string-label.result ≡ c.args.bytes.items = cc (c.from_string-label.ensures, c.in-Ok.ensures.ok) in
    let is : IsUtf8 c.args.bytes.items = subst IsUtf8 same c.as_slice-utf8.ensures.utf8 in
    utf8_of-yes c.args.bytes.items is ∙ ap Some (sym same)

pub returns : goal.returns
returns c = utf8_of-no c.args.bytes.items (λ is. cc (c.in-Err.ensures.succeeds is))
