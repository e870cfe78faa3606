use Rattle.std.proofs.Common.{◌≡◌, ◌<◌, ◌++◌, ℕ, List, Ok, Some, length, slice_get}
use Rattle.model.specs.Layout.{group_block}
use Rattle.frozen.specs.Shared.{shared_blocks}
use Rattle.frozen.specs.Loading.{AreReadFrom, IsHeaderOf, KeptBelow}
use Rattle.loaders.proofs.by_workers.joined.Given as goal

abbrev pub invariant-loop-header : goal.invariant-loop-header
invariant-loop-header l = record {
  rest : l.yielded ++ l.header-iterator.rest.items ≡ l.fn.headers.items;
  group : l.group ≡ length l.yielded;
  kept : KeptBelow l.geometry l.first (shared_blocks l.blocks.items) (group_block l.geometry l.group);
  told : (image : List (List ℕ)) → ((g : ℕ) (header : _) → slice_get l.fn.headers.items g ≡ Some (Ok header) → IsHeaderOf l.geometry image g (shared_blocks header.items))
      → AreReadFrom (shared_blocks l.blocks.items) image;
  ok : (g : ℕ) → g < l.group → (header : _) × (slice_get l.fn.headers.items g ≡ Some (Ok header));
}
