use Rattle.std.proofs.Common.{◌≡◌}
use Rattle.mending.specs.Repairs.{Repairs}
use Rattle.mending.proofs.repair_all.Given as goal

abbrev pub invariant-loop-place : goal.invariant-loop-place
invariant-loop-place g l = record {
  device : l.volume.device ≡ l.fn.volume.device;
  repaired : g.D.Device.honest l.volume.device → Repairs (g.D.Device.held l.fn.volume.device) (g.D.Device.image l.fn.volume.device) l.fn.volume l.place (g.D.Device.held l.volume.device) (g.D.Device.image l.volume.device) l.volume;
}
