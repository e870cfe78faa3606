use Rattle.std.proofs.Common.{sym, ap, ◌∙◌, not}
use Rattle.lists.specs.Stacks.{stack_at}
use Rattle.softdep_queue.proofs.Asked.{some_ready, none_ready_at, empty_tells, some_tells}
use Rattle.softdep_queue.proofs.table.Table.has_ready.Goals as goal

pub returns-clause-some : goal.returns-clause-some
returns-clause-some c geo queue q loose holds is = some_ready geo c.args.self.now queue q loose holds c.args.address (some_tells (stack_at c.args.self.now.ready c.args.address) (ap not (sym c.is_empty.ensures) ∙ is))

pub returns-clause-none : goal.returns-clause-none
returns-clause-none c geo queue q loose holds is = none_ready_at geo c.args.self.now queue q loose holds c.args.address (empty_tells (stack_at c.args.self.now.ready c.args.address) (ap not (sym c.is_empty.ensures) ∙ is))
