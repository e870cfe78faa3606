use Rattle.std.proofs.Common.{◌≡◌, length, None}
use Rattle.std.specs.List.{last_or}
use Rattle.live_paths.specs.Parts.{pieces}
use Rattle.live_paths.proofs.path.last_piece.Given as goal

-- the last piece is still ahead
abbrev pub invariant-pieces : goal.invariant-pieces
invariant-pieces l = last_or None (pieces l.fn.bytes) ≡ last_or None (pieces l.rest)

abbrev pub decreases-pieces : goal.decreases-pieces
decreases-pieces l = length l.rest
