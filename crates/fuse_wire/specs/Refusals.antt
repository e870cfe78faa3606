-- Linux's numbers of refusals, as its header `asm-generic/errno.h` has them.
use Rattle.std.specs.Prelude.{ℕ}
use Rattle.fuse_wire.specs.declared.errors.Errno.{Errno}
use Rattle.fuse_wire.specs.declared.errors.Errno.TheVariants as errors

abbrev pub number_of : Errno → ℕ
number_of errors.NotPermitted = 1
number_of errors.NotFound = 2
number_of errors.Device = 5
number_of errors.NoMemory = 12
number_of errors.Busy = 16
number_of errors.Exists = 17
number_of errors.CrossDevice = 18
number_of errors.NotDirectory = 20
number_of errors.IsDirectory = 21
number_of errors.Invalid = 22
number_of errors.TooManyFiles = 23
number_of errors.TooBig = 27
number_of errors.NoSpace = 28
number_of errors.ReadOnly = 30
number_of errors.TooManyLinks = 31
number_of errors.NameTooLong = 36
number_of errors.NotImplemented = 38
number_of errors.NotEmpty = 39
number_of errors.NotSupported = 95
number_of errors.Stale = 116
