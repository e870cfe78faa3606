use Rattle.std.proofs.Common.{◌≡◌, length}
use Rattle.std.specs.List.{list_all}
use Rattle.machine.specs.Paths.{is_part}
use Rattle.live_paths.specs.Parts.{pieces}
use Rattle.live_paths.proofs.path.has_good_pieces.Given as goal

-- the pieces before are parts
abbrev pub invariant-pieces : goal.invariant-pieces
invariant-pieces l = list_all is_part (pieces l.fn.bytes) ≡ list_all is_part (pieces l.rest)

abbrev pub decreases-pieces : goal.decreases-pieces
decreases-pieces l = length l.rest
