use Rattle.replies.proofs.Copied.{run_refused, service_refused}
use Rattle.replies.proofs.bytes_and_names_may_be_refused.Goals as goal

pub returns : goal.returns
returns c = record { run = run_refused; service = service_refused }
