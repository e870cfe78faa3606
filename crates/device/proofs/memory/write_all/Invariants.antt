use Rattle.std.proofs.Common.{◌≡◌, length, take}
use Rattle.device.specs.Writes.{image_after}
use Rattle.device.proofs.memory.write_all.Given as goal

abbrev pub invariant-loop-address : goal.invariant-loop-address
invariant-loop-address l = record {
  written : l.blocks.items ≡ image_after l.fn.blocks.items (take l.address-index l.fn.writes);
  count : length l.blocks.items ≡ length l.fn.blocks.items;
}
