use Rattle.script_lines.specs.Carried.{RunsOn}
use Rattle.script_lines.proofs.stops.carry_out.Given as goal

abbrev pub invariant-loop-line : goal.invariant-loop-line
invariant-loop-line g l = record {
  honest : g.D.Device.honest l.volume.device → g.D.Device.honest l.fn.volume.device;
  ran : g.D.Device.honest l.volume.device → RunsOn (g.D.Device.held l.fn.volume.device) (g.D.Device.image l.fn.volume.device) l.fn.volume (g.D.Device.held l.volume.device) (g.D.Device.image l.volume.device) l.volume;
  next : (goal.iterator-loop-line g).can_next l.line-iterator;
  finite : (goal.iterator-loop-line g).is_finite l.line-iterator;
}
