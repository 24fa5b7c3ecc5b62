use Rattle.std.proofs.Common.{sym, ◌∙◌}
use Rattle.lt_lang.proofs.Standing.{moment_word}
use Rattle.lt_lang.proofs.integers.moment_here.Goals as goal

pub returns-then-is_ended : goal.returns-then-is_ended
returns-then-is_ended c =
    moment_word c.args.bytes.now c.in_ok-after.field-0.now c.in_ok-moment.rest.now c.in_ok-moment.moment c.in_ok-after.ensures c.in_ok-moment.ensures
    (sym c.is_ended.ensures ∙ c.if-is_ended.true)
