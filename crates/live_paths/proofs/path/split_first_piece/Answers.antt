use Rattle.std.proofs.Common.{◌≡◌, eqb, false, take_all}
use Rattle.std.proofs.lemmas.List.{take_rest}
use Rattle.std.proofs.lemmas.List.Elements.{All-more}
use Rattle.live_paths.proofs.PartLemmas.{not_slash, one_piece, piece_at}
use Rattle.live_paths.proofs.path.split_first_piece.Goals as goal

pub returns-then-byte-eq47-clause-pieces : goal.returns-then-byte-eq47-clause-pieces
returns-then-byte-eq47-clause-pieces c = rw take_rest (piece_at c.args.bytes.now c.loop-at.at c.loop-at-test.true c.if-byte-eq47.true c.loop-at.invariant)

pub loop-at-preserved : goal.loop-at-preserved
loop-at-preserved c = All-more (λ x. eqb x 47 ≡ false) c.args.bytes.now c.loop-at.at 0 c.loop-at-test.true c.loop-at.invariant (not_slash _ c.if-byte-eq47.false)

pub returns-clause-pieces : goal.returns-clause-pieces
returns-clause-pieces c = one_piece c.args.bytes.now (rw (take_all _ _ c.loop-at-test.false) at c.loop-at.invariant)
