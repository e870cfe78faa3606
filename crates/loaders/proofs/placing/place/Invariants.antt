use Rattle.std.proofs.Common.{ℕ, List, All}
use Rattle.frozen.specs.Kept.{KeepsFrame}
use Rattle.frozen.specs.Loading.{AreBlocksOf}
use Rattle.frozen.specs.Shared.{shared_blocks}
use Rattle.loaders.specs.Readers.{IsOfData, IsPlacedOf}
use Rattle.loaders.proofs.placing.place.Given as goal

abbrev pub invariant-loop-placed : goal.invariant-loop-placed
invariant-loop-placed l = record {
  frame : KeepsFrame (record { geometry = l.geometry; blocks = shared_blocks l.blocks.items });
  of_data : All (IsOfData l.geometry) l.placed-iterator.rest.items;
  blocks : (image : List (List ℕ)) → All (IsPlacedOf image) l.fn.ahead.items → AreBlocksOf (shared_blocks l.fn.blocks.items) image
      → All (IsPlacedOf image) l.placed-iterator.rest.items × AreBlocksOf (shared_blocks l.blocks.items) image;
}
