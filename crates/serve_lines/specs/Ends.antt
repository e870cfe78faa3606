-- How the line ends that serves an image.
use Rattle.std.specs.Prelude.{◌≡◌, ◌⊎◌, Some, None}
use Rattle.failures.specs.declared.failure.Failure.{Failure}
use Rattle.failures.specs.Status.{cause_of}
use Rattle.layout.specs.declared.refusal.Refusal.TheVariants.{Device, NoMemory}

-- a failure that may come while messages are answered: a message is none of Linux's, memory runs out, or a device fails
abbrev pub MayEndService : Failure → Type 0
MayEndService failure = (cause_of failure ≡ None) ⊎ (cause_of failure ≡ Some NoMemory) ⊎ (cause_of failure ≡ Some Device)
