-- The elements that a call adds to the story, by its answer.
use Rattle.std.specs.Prelude.{ℕ, nat_le, List, [], ◌∷◌, Result, Ok, Err, if◌then◌else◌}
use Rattle.lt_schema.specs.declared.change.Change.{Change}
use Rattle.lt_model.specs.History.{schema_entry}
use Rattle.lt_trace.specs.Elements.{Element, entry, free}
use Rattle.lt_state.specs.State.{Core}
use Rattle.lt_core.specs.declared.errors.CoreAlterError.{CoreAlterError}
use Rattle.lt_core.specs.declared.errors.CoreAlterError.TheVariants.{Refused, Spent, Fault, NoMemory}

-- where no file number was left: that files were free from the next one on, unless that was noted before
abbrev pub spent_adds : Core → List Element
spent_adds c = if nat_le c.freed c.next_file then free c.next_file ∷ [] else []

abbrev pub alter_adds : Core → Change → Result ℕ CoreAlterError → List Element
alter_adds c change (Ok version) = entry (schema_entry change) ∷ []
alter_adds c change (Err (Refused why)) = []
alter_adds c change (Err Spent) = spent_adds c
alter_adds c change (Err Fault) = []
alter_adds c change (Err NoMemory) = []
