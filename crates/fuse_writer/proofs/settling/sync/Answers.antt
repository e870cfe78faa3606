use Rattle.std.proofs.Common.{refl}
use Rattle.fuse_writer.proofs.DoingLemmas.{ends_done}
use Rattle.fuse_writer.proofs.settling.sync.Goals as goal

pub returns-clause-does : goal.returns-clause-does
returns-clause-does g c =
    ends_done _ _ _ _ _ _ c.ask_done.result c.ask_done.ensures.asked refl c.ask_done.ensures.session _ refl

pub returns-clause-synced : goal.returns-clause-synced
returns-clause-synced g c = c.ask_done.ensures.synced refl
