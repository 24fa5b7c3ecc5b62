-- Refusals of tablets.
use Rattle.std.specs.Prelude.{◌≡◌, ℕ, ◌+◌, Result, Ok, Err}
use Rattle.lt_io.specs.declared.device_error.DeviceError.{DeviceError}
use Rattle.lt_io.specs.declared.device_error.DeviceError.TheVariants.{Failed, NoMemory}
use Rattle.lt_rec.specs.declared.fault.Fault.{Fault}
use Rattle.lt_rec.specs.declared.fault.FormatError.{FormatError}
use Rattle.lt_rec.specs.declared.fault.FormatError.TheVariants as block_errors
use Rattle.lt_tablet.specs.declared.errors.ReadError.{ReadError}
use Rattle.lt_tablet.specs.declared.errors.ReadError.TheVariants as read_errors
use Rattle.lt_tablet.specs.declared.errors.WriteError.{WriteError}
use Rattle.lt_tablet.specs.declared.errors.WriteError.TheVariants as write_errors

-- a device's refusal, as an answer
abbrev pub read_refusal : DeviceError → ReadError
read_refusal Failed = read_errors.Fault
read_refusal NoMemory = read_errors.NoMemory

abbrev pub write_refusal : DeviceError → WriteError
write_refusal Failed = write_errors.Fault
write_refusal NoMemory = write_errors.NoMemory

-- no rule is broken
abbrev pub IsNoBad : ReadError → Type 0
IsNoBad (read_errors.Bad file at) = ⊥
IsNoBad read_errors.Fault = Unit {0}
IsNoBad read_errors.NoMemory = Unit {0}

-- the file that breaks a rule is this one
abbrev pub IsOfFile : ℕ → ReadError → Type 0
IsOfFile number (read_errors.Bad file at) = file ≡ number
IsOfFile number read_errors.Fault = Unit {0}
IsOfFile number read_errors.NoMemory = Unit {0}

-- the fault of a rule, as an answer
abbrev pub named : {A : Type 0} → ℕ → Result A Fault → Result A ReadError
named file (Ok x) = Ok x
named file (Err fault) = Err (read_errors.Bad file fault.at)

abbrev pub named_block : {A : Type 0} → ℕ → Result A FormatError → Result A ReadError
named_block file (Ok x) = Ok x
named_block file (Err (block_errors.Bad at)) = Err (read_errors.Bad file at)
named_block file (Err block_errors.NoMemory) = Err read_errors.NoMemory

-- the fault of a block that begins at `start`
abbrev pub in_block : (file start : ℕ) → FormatError → ReadError
in_block file start (block_errors.Bad at) = read_errors.Bad file (start + at)
in_block file start block_errors.NoMemory = read_errors.NoMemory

-- what a refusal tells of reading: the offset is that of the first fault
abbrev pub Refuses : {Y : Type 0} → ReadError → Result Y ℕ → Type 0
Refuses (read_errors.Bad file at) read = read ≡ Err at
Refuses read_errors.Fault read = Unit {0}
Refuses read_errors.NoMemory read = Unit {0}

-- what a call returned, seen by `view`, is what reading gives, unless the device failed or memory ran out
abbrev pub Loads : {X Y : Type 0} → (X → Y) → Result X ReadError → Result Y ℕ → Type 0
Loads view (Ok x) read = read ≡ Ok (view x)
Loads view (Err why) read = Refuses why read
