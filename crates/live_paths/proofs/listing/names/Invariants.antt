use Rattle.std.proofs.Common.{◌≡◌, ◌*◌, map}
use Rattle.frozen.specs.Kept.{frozen_view}
use Rattle.machine.specs.Effects.{names_below}
use Rattle.live_paths.specs.Listed.{name_of}
use Rattle.live_paths.proofs.listing.names.Given as goal

-- the names of the blocks before
abbrev pub invariant-loop-position : goal.invariant-loop-position
invariant-loop-position l = map name_of l.names.items ≡ names_below l.frozen.geometry (frozen_view l.frozen) l.directory (16 * l.position)
