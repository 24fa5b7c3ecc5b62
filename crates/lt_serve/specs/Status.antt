-- The numbers of the statuses, and the line that each refusal writes.
use Rattle.std.specs.Prelude.{◌≡◌, ◌⊎◌, ⊤, ℕ, List, [], ◌++◌, codes, decimal}
use Rattle.lt_reply.specs.Texts.{line_of}
use Rattle.lt_json.specs.declared.json.SchemaError.{SchemaError}
use Rattle.lt_json.specs.declared.json.SchemaError.TheVariants as schema
use Rattle.lt_commit.specs.declared.errors.LoadError.{LoadError}
use Rattle.lt_commit.specs.declared.errors.LoadError.TheVariants as load
use Rattle.lt_commit.specs.declared.errors.CreateError.{CreateError}
use Rattle.lt_commit.specs.declared.errors.CreateError.TheVariants as create
use Rattle.lt_io.specs.declared.reading.ReadAllError.{ReadAllError}
use Rattle.lt_io.specs.declared.reading.ReadAllError.TheVariants as reading
use Rattle.lt_serve.specs.declared.refusals.MakeError.{MakeError}
use Rattle.lt_serve.specs.declared.refusals.MakeError.TheVariants as making
use Rattle.lt_serve.specs.declared.refusals.SessionError.{SessionError}
use Rattle.lt_serve.specs.declared.refusals.SessionError.TheVariants as session
use Rattle.lt_serve.specs.declared.status.Status.{Status}
use Rattle.lt_serve.specs.declared.status.Status.TheVariants.{Done, Usage, SourceFault, SinkFault, TooLong, Exists, NoTable, Refused, DeviceFault, NoMemory, BadSchema, Spent, NotYet}

abbrev pub code_of : Status → ℕ
code_of Done = 0
code_of Usage = 2
code_of SourceFault = 3
code_of SinkFault = 4
code_of TooLong = 5
code_of Exists = 7
code_of NoTable = 8
code_of (Refused at) = 9
code_of DeviceFault = 10
code_of NoMemory = 11
code_of (BadSchema why) = 12
code_of Spent = 13
code_of (NotYet line) = 14

-- the status of a refused loading
abbrev pub load_refusal : LoadError → Status
load_refusal load.NoTable = NoTable
load_refusal (load.Bad at) = Refused at
load_refusal load.Fault = DeviceFault
load_refusal load.NoMemory = NoMemory

-- the status of a refused creation
abbrev pub create_refusal : CreateError → Status
create_refusal create.Exists = Exists
create_refusal create.Spent = Spent
create_refusal create.Fault = DeviceFault
create_refusal create.NoMemory = NoMemory

-- the status of a making that came to nothing
abbrev pub making_status : MakeError → Status
making_status (making.Schema schema.NoMemory) = NoMemory
making_status (making.Schema why) = BadSchema why
making_status (making.Create why) = create_refusal why

-- the status of a session that was not answered to its end
abbrev pub session_status : SessionError → Status
session_status (session.Load why) = load_refusal why
session_status (session.NotYet line) = NotYet line
session_status session.NoMemory = NoMemory

-- the status where the input was not read
abbrev pub reading_status : ReadAllError → Status
reading_status reading.Fault = SourceFault
reading_status reading.TooLong = TooLong
reading_status reading.NoMemory = NoMemory

-- why a text says no schema; want of memory is told as itself
abbrev pub schema_refusal : SchemaError → List ℕ
schema_refusal schema.NotJson = codes "not json"
schema_refusal (schema.Shape field) = codes "shape " ++ decimal field
schema_refusal schema.NoTime = codes "no time"
schema_refusal (schema.TooMany count) = codes "too many " ++ decimal count
schema_refusal (schema.Twice column) = codes "twice " ++ decimal column
schema_refusal (schema.BadDefault column) = codes "default " ++ decimal column
schema_refusal schema.NoMemory = []

-- a run that is done, or whose sink failed, has no line of its own
abbrev pub refusal_text : Status → List ℕ
refusal_text Done = []
refusal_text Usage = line_of (codes "usage: create DIR SCHEMA [TTL] | run DIR [--leave] | make SEED CLIENTS ROWS | drill DIR SEED CLIENTS ROWS")
refusal_text SourceFault = line_of (codes "error: source")
refusal_text SinkFault = []
refusal_text TooLong = line_of (codes "error: input too long")
refusal_text Exists = line_of (codes "error: exists")
refusal_text NoTable = line_of (codes "error: no table")
refusal_text (Refused at) = line_of (codes "error: bad descriptor at " ++ decimal at)
refusal_text DeviceFault = line_of (codes "error: device")
refusal_text NoMemory = line_of (codes "error: no memory")
refusal_text (BadSchema why) = line_of (codes "error: schema " ++ schema_refusal why)
refusal_text Spent = line_of (codes "error: spent")
refusal_text (NotYet line) = line_of (codes "error: not yet at line " ++ decimal line)

-- a refusal whose line takes no number
abbrev pub HasFixedLine : Status → Type 0
HasFixedLine Done = ⊥
HasFixedLine Usage = ⊤
HasFixedLine SourceFault = ⊤
HasFixedLine SinkFault = ⊥
HasFixedLine TooLong = ⊤
HasFixedLine Exists = ⊤
HasFixedLine NoTable = ⊤
HasFixedLine (Refused at) = ⊥
HasFixedLine DeviceFault = ⊤
HasFixedLine NoMemory = ⊤
HasFixedLine (BadSchema why) = ⊥
HasFixedLine Spent = ⊤
HasFixedLine (NotYet line) = ⊥

-- a refusal is told by its status, or by that of want of memory where its line has a number
abbrev pub IsToldAs : Status → Status → Type 0
IsToldAs refused status = (status ≡ refused) ⊎ ((status ≡ NoMemory) × (HasFixedLine refused → ⊥))
