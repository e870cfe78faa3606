use Rattle.std.proofs.Common.{◌<◌, sym, refl, ap, subst, ◌∙◌, arith, inl, inr}
use Rattle.std.proofs.lemmas.Bool.{both_ways, cases_eq}
use Rattle.model.specs.Layout.{Geometry, inode_count}
use Rattle.frozen.specs.Kept.{frozen_view}
use Rattle.same_metadata.specs.Same.{HasSameInode}
use Rattle.same_metadata.proofs.BlockLemmas.{told_not}
use Rattle.same_metadata.proofs.WalkLemmas.{number_from, number_range}
use Rattle.same_metadata.proofs.have_same_inodes.Goals as goal

pub returns-then-not-has_same_inode : goal.returns-then-not-has_same_inode
returns-then-not-has_same_inode c =
    let geo = c.args.one.now.geometry in
    let i = c.loop-number.number in
    let count = c.inodes-number-end.ensures.count ∙ ap (λ (g : Geometry). inode_count g) c.geometry.ensures.geometry in
    let low : i < inode_count geo = omega (arith, count, c.loop-number-test.true) in
    told_not (λ h. both_ways c.has_same_inode.result c.if-not-has_same_inode.true (c.has_same_inode.ensures.1 (h i (number_from geo i c.loop-number.auto.number low))))

pub loop-number-preserved : goal.loop-number-preserved
loop-number-preserved c = λ i from low. elim (cases_eq i c.loop-number.number) [
  | inl e ↦ subst (HasSameInode c.args.one.now.geometry (frozen_view c.args.one.now) (frozen_view c.args.other.now)) (sym e) (c.has_same_inode.ensures.0 c.if-not-has_same_inode.false)
  | inr differs ↦ c.loop-number.invariant i from (omega (arith, low, differs))
]

pub returns : goal.returns
returns c =
    let geo = c.args.one.now.geometry in
    let count = c.inodes-number-end.ensures.count ∙ ap (λ (g : Geometry). inode_count g) c.geometry.ensures.geometry in (
      (λ _ i n.
          let range = number_range geo i n in
          c.loop-number.invariant i range.0 (omega (arith, range.1, count, c.loop-number-test.false))),
      (λ _. refl),
    )
