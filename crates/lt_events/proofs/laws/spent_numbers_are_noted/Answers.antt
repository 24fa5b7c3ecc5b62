use Rattle.lt_events.proofs.Spent.{spent_stands, spent_is_noted}
use Rattle.lt_events.proofs.laws.spent_numbers_are_noted.Goals as goal

pub returns-clause-stands : goal.returns-clause-stands
returns-clause-stands c = spent_stands

pub returns-clause-noted : goal.returns-clause-noted
returns-clause-noted c = spent_is_noted
