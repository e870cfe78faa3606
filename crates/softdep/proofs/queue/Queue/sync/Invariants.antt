use Rattle.std.proofs.Common.{◌≡◌, ◌+◌, ◌≤◌, length, true}
use Rattle.model.specs.Layout.{block_count}
use Rattle.model.specs.View.{View}
use Rattle.softdep.specs.Queued.{AreClosed, IsSettled, pending_of}
use Rattle.softdep.specs.OnMedium.{IsOnMedium}
use Rattle.softdep.specs.Syncing.{HasPut, HasHeld, AreWrites, AreFlushes}
use Rattle.softdep.proofs.queue.Queue.sync.Given.{Over}
use Rattle.softdep.proofs.queue.Queue.sync.Given as goal

abbrev pub invariant-loop-self : goal.invariant-loop-self
invariant-loop-self g l = record {
  closed : AreClosed l.fn.self;
  settled : IsSettled l.self;
  put : HasPut l.fn.self l.self;
  count : length (g.D.Device.image l.device) ≡ block_count l.self.geometry;
  few : length (g.D.Device.held l.device).media + length (pending_of l.self) ≤ length (g.D.Device.held l.fn.device).media + length (pending_of l.fn.self);
  failures : g.D.Device.failures l.device ≡ g.D.Device.failures l.fn.device;
  honest : g.D.Device.honest l.device → g.D.Device.honest l.fn.device;
  writes : g.D.Device.honest l.device → AreWrites l.fn.self.geometry (g.D.Device.image l.fn.device) (g.D.Device.held l.fn.device) (pending_of l.fn.self) (g.D.Device.image l.device) (g.D.Device.held l.device) (pending_of l.self);
  flushes : g.D.Device.honest l.device → g.D.Device.KEEPS_ORDER ≡ true → IsSettled l.fn.self
      → AreFlushes l.fn.self.geometry (g.D.Device.image l.fn.device) (g.D.Device.held l.fn.device) (pending_of l.fn.self) (g.D.Device.image l.device) (g.D.Device.held l.device) (pending_of l.self);
  medium : g.D.Device.honest l.device → (mounted : View) → IsOnMedium mounted l.fn.self (g.D.Device.held l.fn.device).now → IsOnMedium mounted l.self (g.D.Device.held l.device).now;
  held : g.D.Device.honest l.device → (mounted : View) → IsOnMedium mounted l.fn.self (g.D.Device.held l.fn.device).now → HasHeld mounted l.fn.self (g.D.Device.held l.fn.device) (g.D.Device.held l.device);
}

abbrev pub decreases-loop-self : goal.decreases-loop-self
decreases-loop-self g l = length (pending_of l.self)
