use Rattle.std.proofs.Common.{sym}
use Rattle.lt_cursor.proofs.Behind.{no_first}
use Rattle.lt_cursor.proofs.source.next_in_list.Goals as goal

pub returns-clause-empty : goal.returns-clause-empty
returns-clause-empty c = no_first c.loop-rec.list (sym c.in_default.ensures)
