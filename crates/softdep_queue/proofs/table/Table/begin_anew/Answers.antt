use Rattle.std.proofs.Common.{refl}
use Rattle.softdep_queue.proofs.Rooms.{begins_anew}
use Rattle.softdep_queue.proofs.table.Table.begin_anew.Goals as goal

pub returns-then-self-eq0 : goal.returns-then-self-eq0
returns-then-self-eq0 c geo queue q loose holds =
    (record queue { next = 0 }, begins_anew c.args.self.now _ (record { nodes = c.clear.ensures.items; ready = refl; taken = refl; latest = refl; pending = refl }) c.if-self-eq0.true geo queue q loose holds)
