-- What an anchor's refusals say of those below.
use Rattle.lt_io.specs.declared.device_error.DeviceError.{DeviceError}
use Rattle.lt_io.specs.declared.device_error.DeviceError.TheVariants as device
use Rattle.lt_rec.specs.declared.fault.FormatError.{FormatError}
use Rattle.lt_rec.specs.declared.fault.FormatError.TheVariants as format
use Rattle.lt_commit.specs.declared.errors.FreshError.{FreshError}
use Rattle.lt_commit.specs.declared.errors.FreshError.TheVariants as fresh
use Rattle.lt_commit.specs.declared.errors.LoadError.{LoadError}
use Rattle.lt_commit.specs.declared.errors.LoadError.TheVariants as load
use Rattle.lt_commit.specs.declared.errors.CreateError.{CreateError}
use Rattle.lt_commit.specs.declared.errors.CreateError.TheVariants as create
use Rattle.lt_commit.specs.declared.errors.CommitError.{CommitError}
use Rattle.lt_commit.specs.declared.errors.CommitError.TheVariants as commit

abbrev pub fresh_refusal : DeviceError → FreshError
fresh_refusal device.Failed = fresh.Fault
fresh_refusal device.NoMemory = fresh.NoMemory

abbrev pub load_refusal : DeviceError → LoadError
load_refusal device.Failed = load.Fault
load_refusal device.NoMemory = load.NoMemory

abbrev pub read_refusal : FormatError → LoadError
read_refusal (format.Bad at) = load.Bad at
read_refusal format.NoMemory = load.NoMemory

abbrev pub commit_refusal : DeviceError → CommitError
commit_refusal device.Failed = commit.Fault
commit_refusal device.NoMemory = commit.NoMemory

abbrev pub begin_refusal : FreshError → CreateError
begin_refusal fresh.Exists = create.Exists
begin_refusal fresh.Fault = create.Fault
begin_refusal fresh.NoMemory = create.NoMemory

abbrev pub end_refusal : CommitError → CreateError
end_refusal commit.Spent = create.Spent
end_refusal commit.Fault = create.Fault
end_refusal commit.NoMemory = create.NoMemory

-- no table was made, for a cause that was there before
abbrev pub Denies : CreateError → Type 0
Denies create.Exists = Unit {0}
Denies create.Spent = Unit {0}
Denies create.Fault = ⊥
Denies create.NoMemory = ⊥
