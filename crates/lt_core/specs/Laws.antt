-- Laws of what a core stands for.
use Rattle.std.specs.Prelude.{Bool, List, ◌++◌, map}
use Rattle.lt_trace.specs.Elements.{Element, Story, grown}
use Rattle.lt_state.specs.State.{Core}
use Rattle.lt_state.specs.Stands.{StandsFor}
use Rattle.lt_core.specs.Stories.{Part, further, IsToldBy}

-- a call that adds elements to each story adds them to each list that the core stands for
abbrev pub GrowsByParts : Type 0
GrowsByParts = (told : Bool) (old new : Core) (more : List Element) → ((s : Story) → StandsFor told old s → StandsFor told new (grown s more))
    → (parts : List Part) → IsToldBy told old parts → IsToldBy told new (parts ++ map further more)
