use Rattle.std.proofs.Common.{◌≡◌, ◌+◌}
use Rattle.model.specs.Layout.{data_address}
use Rattle.frozen.specs.Kept.{frozen_view}
use Rattle.metadata.specs.Free.{AreFreeBlocksBelow, marked_in}
use Rattle.metadata.proofs.free_space.mark_free_blocks.Given as goal

abbrev pub invariant-loop-bit : goal.invariant-loop-bit
invariant-loop-bit l = record {
  blocks : AreFreeBlocksBelow l.fn.frozen.geometry (frozen_view l.fn.frozen) (data_address l.fn.frozen.geometry l.fn.group l.bit) l.marks;
  counted : marked_in l.fn.marks + l.count ≡ marked_in l.marks;
}
