use Rattle.std.proofs.Common.{◌+◌, ℕ, List}
use Rattle.model.specs.Layout.{data_address, group_block}
use Rattle.frozen.specs.Shared.{shared_blocks}
use Rattle.frozen.specs.Loading.{AreReadFrom, KeepsOn}
use Rattle.frozen.proofs.loading.leave_data.Given as goal

abbrev pub invariant-loop-place : goal.invariant-loop-place
invariant-loop-place l = record {
  kept : KeepsOn l.geometry (shared_blocks l.fn.blocks.items) (data_address l.geometry l.group 0) (shared_blocks l.blocks.items) (group_block l.geometry l.group + l._place);
  told : (image : List (List ℕ)) → AreReadFrom (shared_blocks l.fn.blocks.items) image → AreReadFrom (shared_blocks l.blocks.items) image;
}
