use Rattle.std.proofs.Common.{sym, ap, ◌∙◌}
use Rattle.lt_lang.specs.Parsing.{text_behind, text_by}
use Rattle.lt_lang.proofs.Pieces.{bare_closed, bare_unclosed}
use Rattle.lt_lang.proofs.texts.text_behind.Goals as goal

pub returns-in-Some : goal.returns-in-Some
unfolding text_behind
returns-in-Some c =
    let e = bare_closed c.args.bytes.now c.split_at.result.0.now c.split_at.result.1.now c.in-Some.rest.now c.bare_len.result c.bare_len.ensures.len
    c.split_at.ensures.front c.split_at.ensures.back c.in-Some.ensures in
    rw e c.copied.ensures

pub returns-in-None : goal.returns-in-None
unfolding text_behind
returns-in-None c =
    ap text_by (bare_unclosed c.args.bytes.now c.split_at.result.1.now c.bare_len.result c.bare_len.ensures.len c.split_at.ensures.back (sym c.is_empty.ensures ∙ c.if-is_empty.true))
