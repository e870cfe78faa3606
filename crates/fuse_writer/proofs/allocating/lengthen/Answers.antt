use Rattle.std.proofs.Common.{refl}
use Rattle.fuse_writer.proofs.DoingLemmas.{on_ask, on_err, on_ok, on_same, on_then}
use Rattle.fuse_writer.proofs.RoomLemmas.{lengthens_by}
use Rattle.fuse_writer.proofs.allocating.lengthen.Goals as goal

pub returns-in-Ok-clause-does : goal.returns-in-Ok-clause-does
returns-in-Ok-clause-does g c = λ next.
    on_same _ _ _ _ _ _ _ (lengthens_by c.args.mounted.now.session.rules c.args.handle c.args.own c.args.size next)
    (on_ok _ _ _ _ _ _ _ _ _ c.in-Ok.is (c.fill_to.ensures.filled next _))

pub returns-in-Err-clause-does : goal.returns-in-Err-clause-does
returns-in-Err-clause-does g c = λ next.
    on_then _ _ _ _ _ _ _ _ _
    (on_same _ _ _ _ _ _ _ (lengthens_by c.args.mounted.now.session.rules c.args.handle c.args.own c.args.size next)
    (on_err _ _ _ _ _ _ _ _ _ c.in-Err.is (c.fill_to.ensures.filled next _)))
    (on_ask _ _ _ _ _ _ _ _ c.ask_done.ensures.asked.grew (λ geo. refl) c.ask_done.ensures.session)
