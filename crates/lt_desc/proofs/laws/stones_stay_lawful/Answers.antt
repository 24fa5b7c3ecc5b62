use Rattle.lt_desc.proofs.Growth.{IsStone-later, IsStone-kept}
use Rattle.lt_desc.proofs.laws.stones_stay_lawful.Goals as goal

pub returns-clause-later : goal.returns-clause-later
returns-clause-later c = IsStone-later

pub returns-clause-fewer : goal.returns-clause-fewer
returns-clause-fewer c = IsStone-kept
