-- The last piece ends with the numbers of the volume.
use Rattle.std.proofs.Common.{◌≡◌, ℕ, List, sym, ap, ◌∙◌, subst, arith}
use Rattle.model.specs.Layout.{inode_count}
use Rattle.directories.specs.declared.cutting.Piece.{Piece}
use Rattle.directories.specs.Pieces.{AreCut}
use Rattle.directories.proofs.PieceLemmas.{cut_more}
use Rattle.directories.proofs.cutting.pieces.Goals as goal

pub returns-clause-cut : goal.returns-clause-cut
returns-clause-cut c =
    let i = c.loop-number.invariant in
    let count : c.inodes-inodes.result ≡ inode_count c.args.frozen.now.geometry = c.inodes-inodes.ensures.count ∙ ap inode_count c.geometry.ensures.geometry in
    subst (λ (n : ℕ). AreCut 0 c.push.new.self.items n) count
    (subst (λ (ps : List Piece). AreCut 0 ps c.inodes-inodes.result) (sym c.in_ok-push.ensures.items)
    (cut_more 0 c.loop-number.cutting.pieces.items (record { first = c.loop-number.cutting.first; past = c.inodes-inodes.result }) i.cut (omega (arith, i.low, c.loop-number.auto.number-end))))
