-- What is known of a line that was not carried out, and the status that the program then ends with.
use Rattle.std.specs.Prelude.{◌≡◌, ◌⊎◌, ℕ, Option, Some, None}
use Rattle.layout.specs.declared.refusal.Refusal.{Refusal}
use Rattle.layout.specs.declared.refusal.Refusal.TheVariants.{NoMemory, Device, Damaged, BadSuper, BadWorkers}
use Rattle.failures.specs.declared.failure.Failure.{Failure}
use Rattle.failures.specs.declared.failure.Failure.TheVariants as failure
use Rattle.failures.specs.declared.reason.Reason.{Reason}
use Rattle.failures.specs.declared.reason.Reason.TheVariants.{DeviceFailed, NotImage, WorkerCount}

-- where a call of the program's own was refused: 4 where the machine gave out, 2 where the image is damaged, and else 3
abbrev pub status_of_refusal : Refusal → ℕ
status_of_refusal NoMemory = 4
status_of_refusal Device = 4
status_of_refusal Damaged = 2
status_of_refusal _ = 3

-- where a line was not carried out
abbrev pub status_of : Failure → ℕ
status_of (failure.Line text) = 3
status_of (failure.Refused cause place reason steps) = status_of_refusal cause

-- the reason that goes with a cause, whatever was asked for
abbrev pub reason_of : Refusal → Option Reason
reason_of Device = Some DeviceFailed
reason_of BadSuper = Some NotImage
reason_of BadWorkers = Some WorkerCount
reason_of _ = None

-- a refusal of which the cause alone is known
abbrev pub plain : Refusal → Failure
plain refusal = failure.Refused refusal None (reason_of refusal) None

-- the cause of a refusal
abbrev pub cause_of : Failure → Option Refusal
cause_of (failure.Line text) = None
cause_of (failure.Refused cause place reason steps) = Some cause

-- the same failure, of which more is told: the cause stays, unless memory ran out for what is told
abbrev pub IsTold : Failure → Failure → Type 0
IsTold old new = (cause_of new ≡ cause_of old) ⊎ (new ≡ plain NoMemory)
