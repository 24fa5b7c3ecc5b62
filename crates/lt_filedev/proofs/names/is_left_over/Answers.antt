use Rattle.std.proofs.Common.{rules}
use Rattle.lt_filedev.specs.Names.{next}
use Rattle.lt_filedev.proofs.LeftOver.{no_file, is_begun}
use Rattle.lt_filedev.proofs.names.is_left_over.Goals as goal

pub returns-then-eq-clause-entered : goal.returns-then-eq-clause-entered
returns-then-eq-clause-entered c = λ is. no_file (next (search (rules, is)))

pub returns-else-eq-clause-only : goal.returns-else-eq-clause-only
returns-else-eq-clause-only c = λ is. is_begun _ c.begun_number_of.ensures.says (search (rules, is))

pub returns-else-eq-clause-entered : goal.returns-else-eq-clause-entered
returns-else-eq-clause-entered c = λ is. no_file (is_begun _ c.begun_number_of.ensures.says (search (rules, is)))
