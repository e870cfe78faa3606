use Rattle.std.proofs.Common.{refl}
use Rattle.fuse_writer.proofs.WriteLemmas.{piece_on}
use Rattle.fuse_writer.proofs.bytes.write_piece.Goals as goal

pub returns-clause-written : goal.returns-clause-written
returns-clause-written g c = piece_on _ _ _ _ _ _ _ _ _ c.ask_done.ensures.asked (λ geo. refl) c.ask_done.ensures.session
