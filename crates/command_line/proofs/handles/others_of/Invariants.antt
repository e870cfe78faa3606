use Rattle.std.proofs.Common.{◌≡◌, All}
use Rattle.file_device.specs.Calls.{image_now}
use Rattle.command_line.proofs.handles.others_of.Given as goal

abbrev pub invariant-loop-worker : goal.invariant-loop-worker
invariant-loop-worker g l = record { shown : All (λ other. image_now g.S.Start.first other ≡ image_now g.S.Start.first l.device) l.others.items }
