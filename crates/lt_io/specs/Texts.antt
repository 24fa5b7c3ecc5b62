use Rattle.std.specs.Prelude.{ℕ, List, codes}
use Rattle.lt_io.specs.declared.device_error.DeviceError.{DeviceError}
use Rattle.lt_io.specs.declared.device_error.DeviceError.TheVariants.{Failed, NoMemory}

-- what a reader is told of a device's refusal
abbrev pub device_error_text : DeviceError → List ℕ
device_error_text Failed = codes "the device failed"
device_error_text NoMemory = codes "no memory"
