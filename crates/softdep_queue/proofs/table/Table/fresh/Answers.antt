use Rattle.std.proofs.Common.{[], sym}
use Rattle.queue_model.specs.Entries.{empty_queue}
use Rattle.softdep_queue.proofs.table.Table.fresh.Goals as goal

pub returns-clause-alone : goal.returns-clause-alone
returns-clause-alone c =
    let holds = c.in_ok-reserve.ensures.held c.args.geometry.now empty_queue [] [] c.in_ok-table.ensures in
    record { queue = empty_queue; holds = holds; alone = sym holds.takes.ties.next }
