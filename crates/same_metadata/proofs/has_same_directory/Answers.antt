use Rattle.std.proofs.Common.{◌<◌, inl, inr, sym, ◌∙◌, subst, arith}
use Rattle.std.proofs.lemmas.Bool.{both_ways, cases_eq}
use Rattle.model.specs.Uses.{blocks_of}
use Rattle.frozen.specs.Kept.{frozen_view}
use Rattle.same_metadata.specs.Same.{HasSameClaim}
use Rattle.same_metadata.proofs.BlockLemmas.{told_not}
use Rattle.same_metadata.proofs.has_same_directory.Goals as goal

pub returns-then-not-has_same_claim : goal.returns-then-not-has_same_claim
returns-then-not-has_same_claim c =
    let k = c.loop-position.position in
    let low : k < blocks_of ((frozen_view c.args.one.now).inode c.args.number).size =
    subst (λ n. k < n) c.blocks-position-end.ensures c.loop-position-test.true in
    told_not (λ h. both_ways c.has_same_claim.result c.if-not-has_same_claim.true
    (c.has_same_claim.ensures.1 (h (sym c.is_directory_at.ensures ∙ c.if-not-is_directory_at.false) k low)))

pub loop-position-preserved : goal.loop-position-preserved
loop-position-preserved c = λ m low. elim (cases_eq m c.loop-position.position) [
  | inl e ↦
      subst (λ k. HasSameClaim c.args.one.now.geometry (frozen_view c.args.one.now) (frozen_view c.args.other.now) c.args.number k) (sym e) (c.has_same_claim.ensures.0 c.if-not-has_same_claim.false)
  | inr differs ↦ c.loop-position.invariant m (omega (arith, low, differs))
]
