use Rattle.std.proofs.Common.{◌≡◌, length}
use Rattle.frozen.specs.Kept.{frozen_view}
use Rattle.frozen.specs.Kinds.{AreKinds}
use Rattle.frozen.proofs.kinds.kinds_of.Given as goal

abbrev pub invariant-loop-number : goal.invariant-loop-number
invariant-loop-number l = record { count : length l.kinds.items ≡ l.number; kinds : AreKinds l.held.geometry (frozen_view l.held) l.kinds.items }
