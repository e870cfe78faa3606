use Rattle.std.proofs.Common.{◌≡◌, ◌+◌, IsTrue, inl, inr, refl, sym, ap, ap₂, ◌∙◌, subst, arith}
use Rattle.std.proofs.lemmas.Bool.{both_ways, cases_eq, le-leb}
use Rattle.model.specs.Shape.{is_table, most_blocks, tables}
use Rattle.frozen.specs.Kept.{frozen_view}
use Rattle.same_metadata.specs.Same.{HasSameClaim}
use Rattle.same_metadata.proofs.BlockLemmas.{told_not}
use Rattle.same_metadata.proofs.WalkLemmas.{all_tables, no_tables}
use Rattle.same_metadata.proofs.has_same_tables.Goals as goal

pub returns-then-not-is_sound_at : goal.returns-then-not-is_sound_at
returns-then-not-is_sound_at c = (
  (λ yes. no_tables c.args.one.now.geometry (frozen_view c.args.one.now) (frozen_view c.args.other.now) c.args.number (sym c.is_sound_at.ensures ∙ c.if-not-is_sound_at.true)),
  (λ h. refl),
)

pub loop-position-preserved : goal.loop-position-preserved
loop-position-preserved c = λ m low is. elim (cases_eq m c.loop-position.position) [
  | inl e ↦
      subst (λ k. HasSameClaim c.args.one.now.geometry (frozen_view c.args.one.now) (frozen_view c.args.other.now) c.args.number k) (sym e) (c.has_same_claim.ensures.0 c.if-not-has_same_claim.false)
  | inr differs ↦ c.loop-position.invariant m (omega (arith, low, differs)) is
]

pub returns-then-not-has_same_claim : goal.returns-then-not-has_same_claim
returns-then-not-has_same_claim c =
    let geo = c.args.one.now.geometry in
    let first = c.most_blocks-position.ensures.count ∙ ap most_blocks c.geometry-geometry.ensures.geometry in
    let table : IsTrue (is_table geo c.loop-position.position) = le-leb (most_blocks geo) c.loop-position.position (omega (arith, first, c.loop-position.auto.position)) in
    told_not (λ h. both_ways c.has_same_claim.result c.if-not-has_same_claim.true (c.has_same_claim.ensures.1 (h c.loop-position.position table)))

pub returns : goal.returns
returns c =
    let geo = c.args.one.now.geometry in
    let last : c.loop-position.position ≡ c.tables_end-position-end.result = omega arith in
    let end = last ∙ c.tables_end-position-end.ensures.end ∙ ap₂ (λ geo n. most_blocks geo + tables n) c.geometry-geometry.ensures.geometry c.blocks-2.ensures in
    let all = all_tables geo (frozen_view c.args.one.now) (frozen_view c.args.other.now) c.args.number c.loop-position.position end c.loop-position.invariant in
    ((λ yes. all), (λ h. refl))
