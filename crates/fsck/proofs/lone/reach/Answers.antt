use Rattle.std.proofs.Common.{List, sym, subst}
use Rattle.model.specs.Layout.{inode_count}
use Rattle.directories.specs.declared.cutting.Piece.{Piece}
use Rattle.directories.specs.Pieces.{AreCut}
use Rattle.fsck.specs.Parts.{is_entries_part}
use Rattle.fsck.proofs.PartLemmas.{of_pieces}
use Rattle.fsck.proofs.lone.reach.Goals as goal

pub walk_of-requires : goal.walk_of-requires
walk_of-requires c =
    let kept = c.args.frozen.now in
    let geo = kept.geometry in
    let pieces = c.as_slice-pieces.result.now in
    let cut : AreCut 0 pieces (inode_count geo) = subst (λ (ps : List Piece). AreCut 0 ps (inode_count geo)) (sym c.as_slice-pieces.ensures.value) c.in_ok-pieces.ensures.cut in
    of_pieces (is_entries_part kept) (inode_count geo) pieces c.in_ok-parts.parts.items cut c.in_ok-parts.ensures.made
