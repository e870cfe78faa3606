-- All but the part in the room was written.
use Rattle.std.proofs.Common.{◌≡◌, ◌≤◌, ◌<◌, ◌*◌, ◌++◌, ℕ, List, Option, length, take}
use Rattle.std.specs.Io.KnownBytes.{Consumes, IsAtEnd}
use Rattle.import_tree.specs.Putting.{AddsBlocks}
use Rattle.import_tree.proofs.copying.copy_parts.Given as goal

abbrev pub invariant-loop-part : goal.invariant-loop-part
invariant-loop-part g l = record {
  room : length l.room.items ≡ 131072;
  within : l.count ≤ 131072;
  end : l.count < 131072 → IsAtEnd (g.F.Read.remaining l.reader);
  whole : length l.given ≡ l.index * 1024;
  all : (left : Option (List ℕ)) → Consumes left (g.F.Read.remaining l.fn.reader) (take l.fn.first l.fn.room.items) → Consumes left (g.F.Read.remaining l.reader) (l.given ++ take l.count l.room.items);
  honest : g.D.Device.honest l.volume.device → g.D.Device.honest l.fn.volume.device;
  written : g.D.Device.honest l.volume.device → AddsBlocks l.handle l.given l.index (g.D.Device.held l.fn.volume.device) (g.D.Device.image l.fn.volume.device) l.fn.volume
      (g.D.Device.held l.volume.device) (g.D.Device.image l.volume.device) l.volume;
}
