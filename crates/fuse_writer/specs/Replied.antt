-- What a reply of a volume is to Linux.
use Rattle.std.specs.Prelude.{ℕ, ◌^◌, List, nat_lt, if◌then◌else◌, Ok, Err, Result}
use Rattle.fuse_wire.specs.declared.errors.Errno.{Errno}
use Rattle.fuse_wire.specs.declared.errors.Errno.TheVariants as errors
use Rattle.layout.specs.declared.refusal.Refusal.{Refusal}
use Rattle.layout.specs.declared.refusal.Refusal.TheVariants as refusals
use Rattle.snapshot.specs.declared.answer.Answer.{Answer}
use Rattle.snapshot.specs.declared.answer.Answer.TheVariants.{Bytes, Number}

-- why a command was refused; what no request can lead to counts as a failure of the device
abbrev pub errno_of : Refusal → Errno
errno_of refusals.NoMemory = errors.NoMemory
errno_of refusals.NotFound = errors.NotFound
errno_of refusals.Exists = errors.Exists
errno_of refusals.NotDirectory = errors.NotDirectory
errno_of refusals.IsDirectory = errors.IsDirectory
errno_of refusals.NotEmpty = errors.NotEmpty
errno_of refusals.BadName = errors.Invalid
errno_of refusals.NoInode = errors.NoSpace
errno_of refusals.NoBlock = errors.NoSpace
errno_of refusals.TooManyLinks = errors.TooManyLinks
errno_of refusals.TooBig = errors.TooBig
errno_of refusals.TooManyOpen = errors.TooManyFiles
errno_of refusals.IsRoot = errors.Busy
errno_of _ = errors.Device

-- the number of 32 bits, as each number of an inode and each handle is, that a command was answered
abbrev pub number_in : Result Answer Refusal → Result ℕ Errno
number_in (Ok (Number n)) = if nat_lt n (2 ^ 32) then Ok n else Err errors.Device
number_in (Ok _) = Err errors.Device
number_in (Err r) = Err (errno_of r)

-- the bytes that a command was answered
abbrev pub bytes_in : Result Answer Refusal → Result (List ℕ) Errno
bytes_in (Ok (Bytes bytes)) = Ok bytes.items
bytes_in (Ok _) = Err errors.Device
bytes_in (Err r) = Err (errno_of r)
