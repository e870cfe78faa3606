-- The part of the piece of this unit, if there is one.
use Rattle.std.proofs.Common.{rules, ◌≡◌, None, Some, slice_get}
use Rattle.std.proofs.lemmas.Option.{gets}
use Rattle.std.proofs.lemmas.Result.{IfOk-weaker}
use Rattle.fsck.specs.Parts.{is_counts_part}
use Rattle.fsck.proofs.PartLemmas.{of_no_piece, of_piece}
use Rattle.fsck.proofs.works.counts_of.Goals as goal

pub returns-in-Some-clause-part : goal.returns-in-Some-clause-part
returns-in-Some-clause-part c =
    let pieces = c.args.pieces.now in
    let at : slice_get pieces c.args.unit ≡ Some c.in-Some.piece.now = search (rules, gets) in
    IfOk-weaker c.part.result _ _ (λ part is. of_piece (is_counts_part c.args.frozen.now c.args.reached.now) pieces c.args.unit c.in-Some.piece.now part at is) c.part.ensures.part

pub returns-in_ok-none-in-None-clause-part : goal.returns-in_ok-none-in-None-clause-part
returns-in_ok-none-in-None-clause-part c =
    let none : slice_get c.args.pieces.now c.args.unit ≡ None = search (rules, gets) in
    of_no_piece (is_counts_part c.args.frozen.now c.args.reached.now) c.args.pieces.now c.args.unit _ none
