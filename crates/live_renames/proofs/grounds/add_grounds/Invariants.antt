use Rattle.std.proofs.Common.{◌≡◌, ◌∷◌, IsTrue, length, map}
use Rattle.frozen.specs.Kept.{frozen_view}
use Rattle.model.specs.Layout.{root}
use Rattle.machine.specs.Paths.{is_part, walk}
use Rattle.updates.specs.Values.{cell}
use Rattle.live_renames.specs.Gathered.{Gathers, IsGrounded}
use Rattle.live_renames.proofs.grounds.add_grounds.Given as goal

-- the walk goes on from here, and the grounds of what it has reached are gathered
abbrev pub invariant-parts : goal.invariant-parts
invariant-parts l =
    (walk l.frozen.geometry (frozen_view l.frozen) root l.fn.path ≡ walk l.frozen.geometry (frozen_view l.frozen) l.directory (l.name ∷ l.rest))
    × IsTrue (is_part l.name)
    × Gathers l.frozen.geometry (map cell l.fn.cells.items) (map cell l.cells.items)
    × IsGrounded l.frozen.geometry (frozen_view l.frozen) l.directory (map cell l.fn.cells.items) (map cell l.cells.items)

abbrev pub decreases-parts : goal.decreases-parts
decreases-parts l = length l.rest
