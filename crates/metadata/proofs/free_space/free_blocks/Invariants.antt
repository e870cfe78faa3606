use Rattle.model.specs.Layout.{group_block}
use Rattle.frozen.specs.Kept.{frozen_view}
use Rattle.metadata.specs.Free.{AreFreeBlocksBelow, IsCounted}
use Rattle.metadata.proofs.free_space.free_blocks.Given as goal

abbrev pub invariant-loop-group : goal.invariant-loop-group
invariant-loop-group l = record {
  blocks : AreFreeBlocksBelow l.fn.frozen.geometry (frozen_view l.fn.frozen) (group_block l.fn.frozen.geometry l.group) l.marks;
  counted : IsCounted l.count l.marks;
}
