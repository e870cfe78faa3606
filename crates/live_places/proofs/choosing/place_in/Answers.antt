use Rattle.std.proofs.Common.{◌≡◌, ap, arith}
use Rattle.frozen.specs.Kept.{frozen_view}
use Rattle.live_places.specs.Rooms.{blocks_for}
use Rattle.live_places.proofs.FreeCounts.{among_all}
use Rattle.live_places.proofs.choosing.place_in.Goals as goal

-- a slot takes none, and what was taken before was there
pub returns-in-Slot-clause-enough : goal.returns-in-Slot-clause-enough
returns-in-Slot-clause-enough c =
    let none : blocks_for c.args.room ≡ 0 = ap blocks_for c.in-Slot.is in
    omega (arith, none, among_all c.args.metadata.now.geometry (frozen_view c.args.metadata.now) c.args.from)
