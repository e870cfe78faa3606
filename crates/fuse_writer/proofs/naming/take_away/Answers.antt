use Rattle.std.proofs.Common.{refl}
use Rattle.fuse_writer.proofs.DoingLemmas.{after_done, after_refused, does_on, does_say}
use Rattle.fuse_writer.proofs.naming.take_away.Goals as goal

pub returns-in-Err-clause-does : goal.returns-in-Err-clause-does
returns-in-Err-clause-does g c =
    does_on _ _ _ _ _ _ _ (c.in-Err.ensures _) (does_say _ _ _ _ _ _ refl refl refl)

pub returns-in-Ok-ask_done-clause-does : goal.returns-in-Ok-ask_done-clause-does
returns-in-Ok-ask_done-clause-does g c =
    let mid = c.ask_done.new.self in
    after_done _ mid.asking _ _ _ _ _ _ _ _ _ _ c.ask_done.ensures.asked refl c.in-Ok-ask_done.is (c.in-Ok.ensures _) (does_say _ _ _ _ _ _ refl refl c.ask_done.ensures.session)

pub returns-in-Err-ask_done-clause-does : goal.returns-in-Err-ask_done-clause-does
returns-in-Err-ask_done-clause-does g c =
    let mid = c.ask_done.new.self in
    after_refused _ mid.asking _ _ _ _ _ _ _ _ _ _ c.ask_done.ensures.asked refl c.in-Err-ask_done.is (c.in-Ok.ensures _) (does_say _ _ _ _ _ _ refl refl c.ask_done.ensures.session)
