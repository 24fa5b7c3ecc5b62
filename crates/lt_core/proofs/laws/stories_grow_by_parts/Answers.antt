use Rattle.lt_core.proofs.Stood.{grows_by_parts}
use Rattle.lt_core.proofs.laws.stories_grow_by_parts.Goals as goal

pub returns : goal.returns
returns c = grows_by_parts
