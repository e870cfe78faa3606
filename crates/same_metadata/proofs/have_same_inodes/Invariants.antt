use Rattle.std.proofs.Common.{◌<◌, ◌≤◌, ℕ}
use Rattle.frozen.specs.Kept.{frozen_view}
use Rattle.same_metadata.specs.Same.{HasSameInode}
use Rattle.same_metadata.proofs.have_same_inodes.Given as goal

-- the inodes so far are the same
abbrev pub invariant-loop-number : goal.invariant-loop-number
invariant-loop-number l = (i : ℕ) → 2 ≤ i → i < l.number → HasSameInode l.fn.one.geometry (frozen_view l.fn.one) (frozen_view l.fn.other) i
