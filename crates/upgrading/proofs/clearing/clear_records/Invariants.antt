use Rattle.std.proofs.Common.{◌≡◌, ◌≤◌, length}
use Rattle.upgrading.specs.Steps.{HasCleared, HasLeft}
use Rattle.upgrading.proofs.clearing.clear_records.Given as goal

abbrev pub invariant-loop-block : goal.invariant-loop-block
invariant-loop-block g l = record {
  cleared : HasCleared l.frozen (g.D.Device.image l.fn.device) (g.D.Device.held l.fn.device) l.block (g.D.Device.image l.device) (g.D.Device.held l.device) l.writes;
  left : HasLeft l.frozen (g.D.Device.image l.fn.device) (g.D.Device.held l.fn.device) (g.D.Device.held l.device);
  few : l.writes ≤ l.block;
  count : length (g.D.Device.image l.device) ≡ length (g.D.Device.image l.fn.device);
  failures : g.D.Device.failures l.device ≡ g.D.Device.failures l.fn.device;
  honest : g.D.Device.honest l.device → g.D.Device.honest l.fn.device;
}
