use Rattle.std.proofs.Common.{List, sym, subst}
use Rattle.model.specs.Layout.{inode_count}
use Rattle.directories.specs.declared.cutting.Piece.{Piece}
use Rattle.directories.specs.Pieces.{AreCut}
use Rattle.fsck.specs.Parts.{is_counts_part}
use Rattle.fsck.proofs.PartLemmas.{made_of_pieces}
use Rattle.fsck.proofs.lone.counts_by_one.Goals as goal

pub returns : goal.returns
returns c =
    let kept = c.args.frozen.now in
    let geo = kept.geometry in
    let pieces = c.as_slice-pieces.result.now in
    let cut : AreCut 0 pieces (inode_count geo) = subst (λ (ps : List Piece). AreCut 0 ps (inode_count geo)) (sym c.as_slice-pieces.ensures.value) c.in_ok-pieces.ensures.cut in
    made_of_pieces (is_counts_part kept c.args.reached.now) geo pieces c.parts_of_one.result cut c.parts_of_one.ensures
