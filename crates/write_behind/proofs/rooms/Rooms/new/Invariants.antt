use Rattle.std.proofs.Common.{◌≡◌, length}
use Rattle.write_behind.proofs.rooms.Rooms.new.Given as goal

abbrev pub invariant-loop-room : goal.invariant-loop-room
invariant-loop-room l = length l.free.items ≡ l._room
