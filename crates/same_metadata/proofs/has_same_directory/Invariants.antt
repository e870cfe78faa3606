use Rattle.std.proofs.Common.{◌<◌, ℕ}
use Rattle.frozen.specs.Kept.{frozen_view}
use Rattle.same_metadata.specs.Same.{HasSameClaim}
use Rattle.same_metadata.proofs.has_same_directory.Given as goal

-- the blocks at the positions so far are the same
abbrev pub invariant-loop-position : goal.invariant-loop-position
invariant-loop-position l = (k : ℕ) → k < l.position → HasSameClaim l.fn.one.geometry (frozen_view l.fn.one) (frozen_view l.fn.other) l.fn.number k
