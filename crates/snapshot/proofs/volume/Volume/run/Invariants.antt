use Rattle.std.proofs.Common.{◌≡◌, ◌≤◌, length, map, take}
use Rattle.std.specs.Prelude.{vec_capacity, vec_len}
use Rattle.snapshot.specs.Asked.{asked}
use Rattle.snapshot.specs.Goes.{Runs}
use Rattle.snapshot.specs.Refusing.{AreCaused}
use Rattle.snapshot.proofs.volume.Volume.run.Given as goal

abbrev pub invariant-loop-command : goal.invariant-loop-command
invariant-loop-command g l = record {
  items : l.command-items ≡ l.fn.commands.items;
  room : length l.fn.commands.items ≤ vec_capacity l.replies;
  count : vec_len l.replies ≡ l.command-index;
  honest : g.D.Device.honest l.self.device → g.D.Device.honest l.fn.self.device;
  caused : AreCaused l.fn.self (take l.command-index l.fn.commands.items) l.replies.items l.self;
  ran : g.D.Device.honest l.self.device → Runs (g.D.Device.held l.fn.self.device) (g.D.Device.image l.fn.self.device) l.fn.self (map (asked l.fn.self.kept.geometry) (take l.command-index l.fn.commands.items)) l.replies.items
      (g.D.Device.held l.self.device) (g.D.Device.image l.self.device) l.self;
}
