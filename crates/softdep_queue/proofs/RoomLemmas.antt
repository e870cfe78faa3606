-- Room for fewer updates.
use Rattle.std.proofs.Common.{ℕ, ◌+◌, arith}
use Rattle.softdep_queue.specs.declared.table.Table.{Table}
use Rattle.softdep_queue.specs.Rooms.{HasRoom}

-- room for more is room for one
pub less_room : (t : Table) (n k cells : ℕ) → HasRoom t (n + 1) (k + cells) → HasRoom t 1 cells
less_room t n k cells room = record {
  nodes = (let r = room.nodes in omega (arith, r));
  taken = (let r = room.taken in omega (arith, r));
  ready = (let r = room.ready in omega (arith, r));
  few = room.few;
  links = (let r = room.links in omega (arith, r));
}
