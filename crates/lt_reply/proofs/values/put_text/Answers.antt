use Rattle.std.proofs.Common.{sym, ◌∙◌}
use Rattle.lt_reply.proofs.Quoted.{quoted_plain}
use Rattle.lt_reply.proofs.values.put_text.Goals as goal

pub returns : goal.returns
returns c =
    let plain = quoted_plain c.args.text.now (sym c.is_all_plain.ensures ∙ c.if-not-is_all_plain.false) in
    rw plain c.in_ok-extend_from_slice.ensures.items
