-- Blocks that were read ahead, each in its place.
use Rattle.std.proofs.Common.{◌<◌, ℕ, List, Option, Some, length, sym, subst, arith, set as slice_set}
use Rattle.std.proofs.lemmas.List.{length-map, map-set}
use Rattle.std.specs.Option.{option_map}
use Rattle.std.specs.Arc.{arc_value}
use Rattle.std.specs.declared.sync.Arc.{Arc}
use Rattle.std.specs.declared.alloc.Global.{Global}
use Rattle.model.specs.Layout.{Geometry}
use Rattle.model.proofs.Addresses.{data_range}
use Rattle.frozen.specs.declared.frozen.Placed.{Placed}
use Rattle.frozen.specs.Kept.{Kept, KeepsFrame}
use Rattle.frozen.specs.Loading.{AreBlocksOf}
use Rattle.frozen.specs.Shared.{shared_blocks}
use Rattle.frozen.proofs.FrozenLemmas.{frame_stays}
use Rattle.frozen.proofs.KeepingLemmas.{put_blocks_of}
use Rattle.loaders.specs.Readers.{IsOfData, IsPlacedOf}

module _ (geo : Geometry) (blocks : List (Option (Arc (List ℕ) Global))) (frame : KeepsFrame (record { geometry = geo; blocks = shared_blocks blocks })) (placed : Placed) (of : IsOfData geo placed) where
  pub has_place : placed.address < length blocks
  has_place =
      let range = data_range geo frame.geometry placed.address of.0 in
      omega (arith, range.1, frame.count, length-map blocks (option_map arc_value))

  -- the frame stays
  pub placed_frame : KeepsFrame (record { geometry = geo; blocks = shared_blocks (slice_set blocks placed.address (Some placed.block)) })
  placed_frame =
      let kept : Kept = record { geometry = geo; blocks = shared_blocks blocks } in
      subst (λ bs. KeepsFrame (record { geometry = geo; blocks = bs })) (sym (map-set (option_map arc_value) blocks placed.address (Some placed.block)))
      (frame_stays kept placed.address (arc_value placed.block) frame of.0 of.1)

  -- and the blocks are those of the image, if the one more is
  pub placed_blocks : (image : List (List ℕ)) → IsPlacedOf image placed → AreBlocksOf (shared_blocks blocks) image
      → AreBlocksOf (shared_blocks (slice_set blocks placed.address (Some placed.block))) image
  placed_blocks image told are =
      let kept : Kept = record { geometry = geo; blocks = shared_blocks blocks } in
      subst (λ bs. AreBlocksOf bs image) (sym (map-set (option_map arc_value) blocks placed.address (Some placed.block)))
      (put_blocks_of kept frame placed.address (arc_value placed.block) of.0 image are told)
