use Rattle.std.proofs.Common.{◌≡◌, drop, length}
use Rattle.write_behind.specs.Writes.{bytes_in}
use Rattle.write_behind.proofs.rooms.Room.write_to.Given as goal

abbrev pub invariant-loop-span : goal.invariant-loop-span
invariant-loop-span g l = length l.left ≡ bytes_in (drop l.span-index l.span-items)
