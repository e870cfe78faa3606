-- Why a file is not opened or made as a device.
use Rattle.std.specs.Prelude.{◌≡◌, ◌⊎◌, IsSomeAnd}
use Rattle.std.specs.IoError.{error_kind}
use Rattle.std.specs.declared.io.ErrorKind.TheVariants.{OutOfMemory}
use Rattle.layout.specs.declared.refusal.Refusal.TheVariants.{BadLength, Device, NoMemory}
use Rattle.file_device.specs.declared.opening.OpenError.{OpenError}

-- the host refused a call: the device failed, or there was no memory, and the host says so
abbrev pub IsOfCall : OpenError → Type 0
IsOfCall error = (error.cause ≡ Device) ⊎ ((error.cause ≡ NoMemory) × IsSomeAnd error.why (λ why. error_kind why ≡ OutOfMemory))

-- and where the file stood there before, its length may also be that of no device
abbrev pub MayNotOpen : OpenError → Type 0
MayNotOpen error = (error.cause ≡ BadLength) ⊎ IsOfCall error
