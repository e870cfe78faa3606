use Rattle.replies.proofs.Causes.{first_not_device, first_not_full, first_not_memory}
use Rattle.replies.proofs.no_cause_is_the_device_or_a_trace.Goals as goal

pub returns : goal.returns
returns c = record { device = first_not_device; trace = first_not_full; memory = first_not_memory }
