use Rattle.std.proofs.Common.{All, map, suc, sym, ap, ◌∙◌, subst, arith}
use Rattle.std.proofs.lemmas.List.{nil_from_length}
use Rattle.frozen.specs.Kept.{Kept}
use Rattle.frozen.specs.Installed.{FitsIn, standing, with_blocks}
use Rattle.frozen.proofs.held.Held.install.Goals as goal

pub loop-placed-init : goal.loop-placed-init
loop-placed-init c = record {
  left = ap (λ ps. with_blocks c.args.self.now (map standing ps)) c.into_iter-placed-iterator.ensures.into_iter_gives.0;
  fits = subst (All (FitsIn c.args.self.now.geometry)) (sym c.into_iter-placed-iterator.ensures.into_iter_gives.0) c.requires;
}

pub put-requires : goal.put-requires
put-requires c = subst (All (FitsIn c.loop-placed.self.geometry)) c.in-Some.ensures.steps.0 c.loop-placed.invariant.fits 0 c.in-Some.placed (omega arith)

pub loop-placed-preserved : goal.loop-placed-preserved
loop-placed-preserved c = record {
  left = ap (λ k. with_blocks k (map standing c.next.new.self.rest.items)) c.put.ensures.put ∙ sym (ap (λ ps. with_blocks c.loop-placed.self (map standing ps)) c.in-Some.ensures.steps.0) ∙ c.loop-placed.invariant.left;
  fits = subst (λ (k : Kept). All (FitsIn k.geometry) c.next.new.self.rest.items) (sym c.put.ensures.put)
      (λ k d low. subst (All (FitsIn c.loop-placed.self.geometry)) c.in-Some.ensures.steps.0 c.loop-placed.invariant.fits (suc k) d (omega (arith, low)));
}

pub returns : goal.returns
returns c =
    ap (λ ps. with_blocks c.loop-placed.self (map standing ps)) (sym (nil_from_length c.loop-placed.placed-iterator.rest.items (omega (arith, c.in-None.ensures.steps.0, c.loop-placed.placed-iterator.rest.ok)))) ∙ c.loop-placed.invariant.left
