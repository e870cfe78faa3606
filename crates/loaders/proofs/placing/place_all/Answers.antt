-- The blocks of one worker more are in their places.
use Rattle.std.proofs.Common.{All, suc, sym, subst, arith}
use Rattle.loaders.specs.Readers.{IsOfData, IsPlacedOf}
use Rattle.loaders.proofs.placing.place_all.Goals as goal

pub loop-one-init : goal.loop-one-init
loop-one-init c =
    let same = sym c.into_iter-one-iterator.ensures.into_iter_gives.0 in
    record {
      frame = c.requires.frame;
      of_data = subst (All (λ one. All (IsOfData c.args.geometry.now) one.items)) same c.requires.of_data;
      blocks = λ image told are. (subst (All (λ one. All (IsPlacedOf image) one.items)) same told, are);
    }

pub place-requires-clause-of_data : goal.place-requires-clause-of_data
place-requires-clause-of_data c =
    subst (All (λ one. All (IsOfData c.args.geometry.now) one.items)) c.in-Some.ensures.steps.0 c.loop-one.invariant.of_data 0 c.in-Some.one (omega arith)

pub loop-one-preserved : goal.loop-one-preserved
loop-one-preserved c =
    let inv = c.loop-one.invariant in
    let steps = c.in-Some.ensures.steps.0 in
    let here = subst (All (λ one. All (IsOfData c.args.geometry.now) one.items)) steps inv.of_data in
    record {
      frame = c.place.ensures.frame;
      of_data = λ k d low. here (suc k) d (omega (arith, low));
      blocks = λ image told are.
          let before = inv.blocks image told are in
          let there = subst (All (λ one. All (IsPlacedOf image) one.items)) steps before.0 in
          (λ k d low. there (suc k) d (omega (arith, low)), c.place.ensures.blocks image (there 0 c.in-Some.one (omega arith)) before.1);
    }
