use Rattle.std.proofs.Common.{ℕ, List, All}
use Rattle.frozen.specs.Kept.{KeepsFrame}
use Rattle.frozen.specs.Loading.{AreBlocksOf}
use Rattle.frozen.specs.Shared.{shared_blocks}
use Rattle.loaders.specs.Readers.{IsOfData, IsPlacedOf}
use Rattle.loaders.proofs.placing.place_all.Given as goal

abbrev pub invariant-loop-one : goal.invariant-loop-one
invariant-loop-one l = record {
  frame : KeepsFrame (record { geometry = l.geometry; blocks = shared_blocks l.blocks.items });
  of_data : All (λ one. All (IsOfData l.geometry) one.items) l.one-iterator.rest.items;
  blocks : (image : List (List ℕ)) → All (λ one. All (IsPlacedOf image) one.items) l.fn.ahead.items → AreBlocksOf (shared_blocks l.fn.blocks.items) image
      → All (λ one. All (IsPlacedOf image) one.items) l.one-iterator.rest.items × AreBlocksOf (shared_blocks l.blocks.items) image;
}
