use Rattle.std.proofs.Common.{◌≤◌, drop, take}
use Rattle.device.specs.Cached.{AreWrites, IsSince}
use Rattle.device.proofs.cache.last_sync.Given as goal

abbrev pub invariant-loop-at : goal.invariant-loop-at
invariant-loop-at l = record {
  within : l.synced ≤ l.at;
  since : IsSince l.fn.steps l.synced l.at;
  writes : AreWrites (drop l.synced (take l.at l.fn.steps));
}
