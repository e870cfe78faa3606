-- One block more is in its place.
use Rattle.std.proofs.Common.{All, suc, sym, subst, arith}
use Rattle.loaders.specs.Readers.{IsOfData, IsPlacedOf}
use Rattle.loaders.proofs.PlaceLemmas.{has_place, placed_blocks, placed_frame}
use Rattle.loaders.proofs.placing.place.Goals as goal

pub loop-placed-init : goal.loop-placed-init
loop-placed-init c =
    let same = sym c.into_iter-placed-iterator.ensures.into_iter_gives.0 in
    record {
      frame = c.requires.frame;
      of_data = subst (All (IsOfData c.args.geometry.now)) same c.requires.of_data;
      blocks = λ image told are. (subst (All (IsPlacedOf image)) same told, are);
    }

pub index_mut-requires : goal.index_mut-requires
index_mut-requires c =
    let geo = c.args.geometry.now in
    let inv = c.loop-placed.invariant in
    let here = subst (All (IsOfData geo)) c.in-Some.ensures.steps.0 inv.of_data in
    omega (arith, has_place geo c.loop-placed.blocks.items inv.frame c.in-Some.placed (here 0 c.in-Some.placed (omega arith)), c.loop-placed.blocks.ok.0)

pub loop-placed-preserved-in-Some : goal.loop-placed-preserved-in-Some
loop-placed-preserved-in-Some c =
    let geo = c.args.geometry.now in
    let inv = c.loop-placed.invariant in
    let steps = c.in-Some.ensures.steps.0 in
    let placed = c.in-Some.placed in
    let here = subst (All (IsOfData geo)) steps inv.of_data in
    let of = here 0 placed (omega arith) in
    record {
      frame = placed_frame geo c.loop-placed.blocks.items inv.frame placed of;
      of_data = λ k d low. here (suc k) d (omega (arith, low));
      blocks = λ image told are.
          let before = inv.blocks image told are in
          let there = subst (All (IsPlacedOf image)) steps before.0 in
          (λ k d low. there (suc k) d (omega (arith, low)), placed_blocks geo c.loop-placed.blocks.items inv.frame placed of image (there 0 placed (omega arith)) before.1);
    }

pub loop-placed-preserved : goal.loop-placed-preserved
loop-placed-preserved c =
    let geo = c.args.geometry.now in
    let inv = c.loop-placed.invariant in
    let steps = c.in-Some.ensures.steps.0 in
    let placed = c.in-Some.placed in
    let here = subst (All (IsOfData geo)) steps inv.of_data in
    let of = here 0 placed (omega arith) in
    record {
      frame = placed_frame geo c.loop-placed.blocks.items inv.frame placed of;
      of_data = λ k d low. here (suc k) d (omega (arith, low));
      blocks = λ image told are.
          let before = inv.blocks image told are in
          let there = subst (All (IsPlacedOf image)) steps before.0 in
          (λ k d low. there (suc k) d (omega (arith, low)), placed_blocks geo c.loop-placed.blocks.items inv.frame placed of image (there 0 placed (omega arith)) before.1);
    }
