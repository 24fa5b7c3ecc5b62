-- Refusals of devices and of tablets, as answers.
use Rattle.lt_io.specs.declared.device_error.DeviceError.{DeviceError}
use Rattle.lt_io.specs.declared.device_error.DeviceError.TheVariants as device_errors
use Rattle.lt_tablet.specs.declared.errors.ReadError.{ReadError}
use Rattle.lt_tablet.specs.declared.errors.ReadError.TheVariants as read_errors
use Rattle.lt_loading.specs.declared.refusal.LoadRefusal.{LoadRefusal}
use Rattle.lt_loading.specs.declared.refusal.LoadRefusal.TheVariants as refusals

abbrev pub device_refusal : DeviceError → LoadRefusal
device_refusal device_errors.Failed = refusals.Fault
device_refusal device_errors.NoMemory = refusals.NoMemory

abbrev pub read_refusal : ReadError → LoadRefusal
read_refusal (read_errors.Bad file at) = refusals.BadTablet file at
read_refusal read_errors.Fault = refusals.Fault
read_refusal read_errors.NoMemory = refusals.NoMemory
