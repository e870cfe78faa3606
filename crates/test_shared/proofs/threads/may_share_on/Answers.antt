use Rattle.std.proofs.Common.{sym}
use Rattle.test_shared.proofs.threads.may_share_on.Goals as goal

pub new-requires-clause-sharing : goal.new-requires-clause-sharing
new-requires-clause-sharing g c = (sym c.requires.sharing.0, c.requires.sharing.1 _)
