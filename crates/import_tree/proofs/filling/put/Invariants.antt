use Rattle.std.proofs.Common.{◌≡◌, All, length, map, take}
use Rattle.import_tree.specs.Putting.{IsTrueReading, WerePut, item_of}
use Rattle.import_tree.proofs.filling.put.Given as goal

abbrev pub invariant-loop-item : goal.invariant-loop-item
invariant-loop-item g l = record {
  done : l.done ≡ l.item-index;
  room : length l.room.items ≡ 131072;
  honest : g.D.Device.honest l.volume.device → g.D.Device.honest l.fn.volume.device;
  read : map item_of l.readings.items.items ≡ take l.item-index l.items;
  held : All IsTrueReading l.readings.items.items;
  put : g.D.Device.honest l.volume.device
      → WerePut l.readings.items.items (g.D.Device.held l.fn.volume.device) (g.D.Device.image l.fn.volume.device) l.fn.volume (g.D.Device.held l.volume.device) (g.D.Device.image l.volume.device) l.volume;
}
