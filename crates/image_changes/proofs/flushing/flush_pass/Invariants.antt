use Rattle.image_changes.specs.Asking.{AddsFlushes}
use Rattle.image_changes.proofs.flushing.flush_pass.Given as goal

abbrev pub invariant-loop-turn : goal.invariant-loop-turn
invariant-loop-turn g l = record {
  honest : g.D.Device.honest l.volume.device → g.D.Device.honest l.fn.volume.device;
  flushed : g.D.Device.honest l.volume.device → AddsFlushes (g.D.Device.held l.fn.volume.device) (g.D.Device.image l.fn.volume.device) l.fn.volume (g.D.Device.held l.volume.device) (g.D.Device.image l.volume.device) l.volume;
}
