use Rattle.std.proofs.Common.{sym, subst}
use Rattle.queue_model.specs.Entries.{Queue}
use Rattle.softdep_queue.specs.declared.table.Table.{Table}
use Rattle.softdep_queue.specs.Ties.{Holds}
use Rattle.softdep_queue.proofs.table.Table.make_room.Goals as goal
use Rattle.softdep_queue.proofs.table.Table.make_room.Goals.{then-is_sparse+in_ok-move_together, else-is_sparse}

pub returns-clause-held : goal.returns-clause-held
returns-clause-held c queue q loose holds =
    let geo = c.args.geometry.now in
    let moved : (queue' : Queue) × Holds geo c.if-is_sparse.self queue' q loose = elim c.if-is_sparse.branch [
      | then-is_sparse+in_ok-move_together w ↦ subst (λ (t : Table). (queue' : Queue) × Holds geo t queue' q loose) (sym w.self-is) (w.in_ok-move_together.ensures.held queue q loose holds)
      | else-is_sparse w ↦ subst (λ (t : Table). (queue' : Queue) × Holds geo t queue' q loose) (sym w.self-is) (queue, holds)
    ] in
    (moved.0, c.reserve.ensures.held geo moved.0 q loose moved.1)
