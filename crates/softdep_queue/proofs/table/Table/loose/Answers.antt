use Rattle.std.proofs.Common.{◌≡◌, ◌∙◌, length, arith}
use Rattle.softdep_queue.proofs.Asked.{loose_is}
use Rattle.softdep_queue.proofs.table.Table.loose.Goals as goal

pub returns : goal.returns
returns c geo queue q loose holds =
    let len = c.len.ensures in
    let is : c.len.result ≡ length c.args.self.now.taken.items = omega (arith, len) in
    is ∙ loose_is geo c.args.self.now queue q loose holds
