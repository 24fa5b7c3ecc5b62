-- The lists that a core stands for: a story's opening first, and then each of its elements.
use Rattle.std.specs.Prelude.{◌≡◌, Bool, List, ◌∷◌, map}
use Rattle.lt_model.specs.History.{Opening}
use Rattle.lt_trace.specs.Elements.{Noted, Began, Element, Story}
use Rattle.lt_state.specs.State.{Core}
use Rattle.lt_state.specs.Stands.{StandsFor}

-- what an opening found, with its files and where it began; or an element since
pub data Part : Type 0 where
  opened : Opening → List Noted → Began → Part
  further : Element → Part

abbrev pub parts_of : Story → List Part
parts_of s = opened s.opening s.loaded s.began ∷ map further s.since

-- the core stands for a story with these parts
pub record IsToldBy (told : Bool) (c : Core) (parts : List Part) : Type 0 where
  pub story : Story
  pub stands : StandsFor told c story
  pub parts_are : parts ≡ parts_of story
