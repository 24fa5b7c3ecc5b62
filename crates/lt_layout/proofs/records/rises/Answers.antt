use Rattle.std.proofs.Common.{sym, ◌∙◌}
use Rattle.lt_layout.proofs.Words.{alike_parts}
use Rattle.lt_layout.proofs.records.rises.Goals as goal

pub is_later-requires-clause-len : goal.is_later-requires-clause-len
is_later-requires-clause-len c = (alike_parts c.args.last.now c.args.key.now (sym c.requires.alike ∙ c.if-is_alike.true)).0

pub is_later-requires-clause-stems : goal.is_later-requires-clause-stems
is_later-requires-clause-stems c = (alike_parts c.args.last.now c.args.key.now (sym c.requires.alike ∙ c.if-is_alike.true)).1
