use Rattle.std.proofs.Common.{inl, inr, refl, sym, ◌∙◌}
use Rattle.frozen.specs.Kept.{frozen_view}
use Rattle.snapshot.proofs.PieceLemmas.{piece_past, piece_within}
use Rattle.snapshot.proofs.pieces.piece_of.Goals as goal

pub returns-then-index-blocks-clause-refused : goal.returns-then-index-blocks-clause-refused
returns-then-index-blocks-clause-refused c =
    let kept = c.args.frozen.now in
    inl (piece_past kept.geometry (frozen_view kept) c.args.inode c.args.index c.blocks-2.result c.in-Some.record c.in-Some.ensures.0 c.in-Some.ensures.1 c.blocks-2.ensures
    (sym c.is_directory_at.ensures ∙ c.if-is_directory_at.false) c.if-index-blocks.true)

pub returns-in_default-claim_at-clause-refused : goal.returns-in_default-claim_at-clause-refused
returns-in_default-claim_at-clause-refused c =
    let kept = c.args.frozen.now in
    inr (
      refl,
      record {
        no_cause = piece_within kept.geometry (frozen_view kept) c.args.inode c.args.index c.blocks-2.result c.in-Some.record c.in-Some.ensures.0 c.in-Some.ensures.1 c.blocks-2.ensures
            (sym c.is_directory_at.ensures ∙ c.if-is_directory_at.false) c.if-index-blocks.false;
        unclaimed = sym c.claim_at.ensures ∙ c.in_default-claim_at.is;
      },
    )
