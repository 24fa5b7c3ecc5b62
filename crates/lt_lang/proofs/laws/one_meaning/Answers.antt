use Rattle.lt_lang.proofs.Exactly.{one_command, no_remark_beside}
use Rattle.lt_lang.proofs.laws.one_meaning.Goals as goal

pub returns : goal.returns
returns c = record { command = one_command; remark = no_remark_beside }
