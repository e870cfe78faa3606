-- The piece that ends follows the others.
use Rattle.std.proofs.Common.{List, sym, subst}
use Rattle.directories.specs.declared.cutting.Piece.{Piece}
use Rattle.directories.specs.Pieces.{AreCut}
use Rattle.directories.proofs.PieceLemmas.{cut_more}
use Rattle.directories.proofs.cutting.Cutting.reach.Goals as goal

pub returns-clause-cut : goal.returns-clause-cut
returns-clause-cut c = λ cut.
    subst (λ (ps : List Piece). AreCut 0 ps c.args.number) (sym c.in_ok-push.ensures.items)
    (cut_more 0 c.args.self.now.pieces.items (record { first = c.args.self.now.first; past = c.args.number }) cut c.requires)
