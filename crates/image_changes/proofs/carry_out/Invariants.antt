use Rattle.std.proofs.Common.{◌≡◌, ◌≤◌, length, map, take}
use Rattle.std.specs.Prelude.{vec_capacity, vec_len}
use Rattle.snapshot.specs.Asked.{asked}
use Rattle.snapshot.specs.Goes.{Runs}
use Rattle.image_changes.specs.Asking.{AllAnswer}
use Rattle.image_changes.proofs.carry_out.Given as goal

abbrev pub invariant-loop-command : goal.invariant-loop-command
invariant-loop-command g l = record {
  room : length l.fn.commands ≤ vec_capacity l.replies;
  count : vec_len l.replies ≡ l.command-index;
  long : length l.replies.items ≡ l.command-index;
  answered : AllAnswer l.replies.items;
  honest : g.D.Device.honest l.volume.device → g.D.Device.honest l.fn.volume.device;
  ran : g.D.Device.honest l.volume.device → Runs (g.D.Device.held l.fn.volume.device) (g.D.Device.image l.fn.volume.device) l.fn.volume (map (asked l.fn.volume.kept.geometry) (take l.command-index l.fn.commands)) l.replies.items
      (g.D.Device.held l.volume.device) (g.D.Device.image l.volume.device) l.volume;
}
