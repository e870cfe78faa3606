use Rattle.std.proofs.Common.{◌-◌, ◌≡◌, ◌+◌, ◌≤◌}
use Rattle.shared.specs.Calls.{IsRepairOf}
use Rattle.shared.specs.Repairing.{Repairs}
use Rattle.shared.proofs.shared.Shared.repair_all.Given as goal

abbrev pub invariant-loop-progress : goal.invariant-loop-progress
invariant-loop-progress g l =
    Repairs (IsRepairOf g.D.Device.honest g.D.Device.held g.D.Device.image g.L.Sharing.limit g.L.Sharing.opens) l.fn.progress.next l.fn.progress.done l.progress.next l.progress.done
    × (l.fn.progress.next ≤ l.progress.next)
    × (l.seat.others.amount ≡ l.fn.seat.others.amount)
    × (l.seat.repairs.amount + l.fn.progress.next ≡ l.fn.seat.repairs.amount + l.progress.next)

abbrev pub decreases-loop-progress : goal.decreases-loop-progress
decreases-loop-progress g l = 4294967295 - l.progress.next
