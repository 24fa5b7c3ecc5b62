-- What a run writes, by its status.
use Rattle.std.specs.Prelude.{◌⊎◌, ⊤, ℕ, List, Option}
use Rattle.std.specs.Io.KnownBytes.{Appends}
use Rattle.lt_io.specs.Cause.{Rose, AppendsFront}
use Rattle.lt_json.specs.declared.json.SchemaError.{SchemaError}
use Rattle.lt_json.specs.declared.json.SchemaError.TheVariants as schema
use Rattle.lt_serve.specs.Status.{refusal_text}
use Rattle.lt_serve.specs.declared.status.Status.{Status}
use Rattle.lt_serve.specs.declared.status.Status.TheVariants.{Done, Usage, SourceFault, SinkFault, TooLong, BadSchema}

-- how a run may end once its input was read
abbrev pub IsAfterReading : Status → Type 0
IsAfterReading Usage = ⊥
IsAfterReading SourceFault = ⊥
IsAfterReading TooLong = ⊥
IsAfterReading (BadSchema why) = ⊥
IsAfterReading _ = ⊤

-- this text is written whole, or a front of it where the sink's count rose
abbrev pub WritesWhole : Status → List ℕ → Option (List ℕ) → Option (List ℕ) → ℕ → ℕ → Type 0
WritesWhole Done text old new before now = Appends old new text
WritesWhole SinkFault text old new before now = Rose before now × AppendsFront old new text
WritesWhole _ text old new before now = ⊥

-- these bytes alone, or a front of them where the sink's count rose
abbrev pub WritesAlone : List ℕ → Option (List ℕ) → Option (List ℕ) → ℕ → ℕ → Type 0
WritesAlone text old new before now = Appends old new text ⊎ (Rose before now × AppendsFront old new text)

-- a cause against a text, as its line tells it; want of memory is a status of its own
abbrev pub IsSaid : SchemaError → Type 0
IsSaid schema.NoMemory = ⊥
IsSaid _ = ⊤

-- what ends with a line of its own
abbrev pub IsRefusal : Status → Type 0
IsRefusal Done = ⊥
IsRefusal SinkFault = ⊥
IsRefusal (BadSchema why) = IsSaid why
IsRefusal _ = ⊤

-- a refusal writes its own line and nothing else
abbrev pub WritesRefusal : Status → Option (List ℕ) → Option (List ℕ) → ℕ → ℕ → Type 0
WritesRefusal Done old new before now = ⊤
WritesRefusal SinkFault old new before now = Rose before now
WritesRefusal status old new before now = WritesAlone (refusal_text status) old new before now
