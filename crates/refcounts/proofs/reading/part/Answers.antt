-- The numbers of the piece, one after another.
use Rattle.std.proofs.Common.{inl, inr, refl, ap, ◌∙◌, arith}
use Rattle.frozen.specs.Kept.{frozen_view}
use Rattle.model.specs.Layout.{Geometry}
use Rattle.refcounts.proofs.PartLemmas.{name_all, name_first, name_next}
use Rattle.refcounts.proofs.reading.part.Goals as goal

pub loop-directory-init : goal.loop-directory-init
loop-directory-init c =
    let geo = c.args.frozen.now.geometry in
    record {
      groups = c.in_ok-part.ensures.groups ∙ c.groups.ensures.count ∙ ap (λ (g : Geometry). g.groups) c.geometry.ensures.geometry;
      named = name_first geo c.geometry.ensures.frame.geometry (frozen_view c.args.frozen.now) c.args.reached.now c.args.piece.now.first c.in_ok-part.part c.in_ok-part.ensures.none;
      ends = inr refl;
    }

pub loop-directory-preserved : goal.loop-directory-preserved
loop-directory-preserved c =
    let geo = c.args.frozen.now.geometry in
    let i = c.loop-directory.invariant in
    let k = c.loop-directory.directory in
    record {
      groups = c.in_ok-add_directory.ensures.groups ∙ i.groups;
      named = name_next geo c.geometry.ensures.frame.geometry (frozen_view c.args.frozen.now) c.args.reached.now c.args.piece.now.first k c.loop-directory.part c.add_directory.new.part
          (omega (arith, c.loop-directory.auto.directory)) i.groups c.in_ok-add_directory.ensures.added i.named;
      ends = inl (omega (arith, c.loop-directory-test.true));
    }

pub returns-clause-part : goal.returns-clause-part
returns-clause-part c =
    let geo = c.args.frozen.now.geometry in
    name_all geo c.geometry.ensures.frame.geometry (frozen_view c.args.frozen.now) c.args.reached.now c.args.piece.now c.loop-directory.directory c.loop-directory.part
    (omega (arith, c.loop-directory-test.false)) c.loop-directory.invariant.ends c.loop-directory.invariant.named
