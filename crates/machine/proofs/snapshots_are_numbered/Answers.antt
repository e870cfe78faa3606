use Rattle.machine.proofs.Cycles.{frozen_number, run_grows, run_gone, run_numbered}
use Rattle.machine.proofs.snapshots_are_numbered.Goals as goal

pub returns : goal.returns
returns c = record { answer = frozen_number; grows = run_grows; gone = run_gone; kept = run_numbered }
