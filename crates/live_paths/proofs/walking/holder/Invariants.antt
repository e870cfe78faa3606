use Rattle.std.proofs.Common.{◌≡◌, length}
use Rattle.frozen.specs.Kept.{frozen_view}
use Rattle.model.specs.Layout.{root}
use Rattle.machine.specs.Paths.{walk}
use Rattle.live_paths.specs.Parts.{pieces}
use Rattle.live_paths.proofs.walking.holder.Given as goal

-- the walk goes on from here
abbrev pub invariant-pieces : goal.invariant-pieces
invariant-pieces l = walk l.frozen.geometry (frozen_view l.frozen) root (pieces l.fn.bytes) ≡ walk l.frozen.geometry (frozen_view l.frozen) l.directory (pieces l.rest)

abbrev pub decreases-pieces : goal.decreases-pieces
decreases-pieces l = length l.rest
