use Rattle.std.proofs.Common.{◌≡◌, ◌<◌, ◌≤◌, ◌+◌, ◌-◌, ◌*◌, drop, length}
use Rattle.std.specs.Slice.Iter.{chunks_rest, chunks_size}
use Rattle.import_tree.specs.Putting.{AddsPart}
use Rattle.import_tree.proofs.making.write_blocks.Given as goal

abbrev pub invariant-loop-piece : goal.invariant-loop-piece
invariant-loop-piece g l =
    (goal.iterator-loop-piece g).can_next l.piece-iterator
    × (goal.iterator-loop-piece g).is_finite l.piece-iterator
    × (chunks_size l.piece-iterator ≡ 1024)
    × (l.first ≤ l.next.index)
    × (chunks_rest l.piece-iterator ≡ drop ((l.next.index - l.first) * 1024) l.bytes)
    × ((l.next.index - l.first) * 1024 < length l.bytes + 1024)
    × (g.D.Device.honest l.volume.device → g.D.Device.honest l.fn.volume.device)
    × (g.D.Device.honest l.volume.device → AddsPart l.handle l.first l.bytes (l.next.index - l.first) (g.D.Device.held l.fn.volume.device) (g.D.Device.image l.fn.volume.device) l.fn.volume
    (g.D.Device.held l.volume.device) (g.D.Device.image l.volume.device) l.volume)
