use Rattle.std.proofs.Common.{sym, subst, length}
use Rattle.queue_model.specs.Blocks.{home_of}
use Rattle.softdep_queue.specs.declared.table.Table.{Table}
use Rattle.softdep_queue.specs.Ties.{Holds, shown_by}
use Rattle.softdep_queue.specs.Moving.{taken_by, IsClosedByBlocks, HoldsAlone, AreUpdates}
use Rattle.softdep_queue.proofs.Moved.{are_updates, closed_nodes, taken_is}
use Rattle.softdep_queue.proofs.table.Table.move_together.Goals as goal

pub add_all-requires-clause-cells : goal.add_all-requires-clause-cells
add_all-requires-clause-cells c =
    subst (λ (t : Table). AreUpdates c.args.geometry.now t.nodes.items) (sym c.replace-nodes.ensures.value) (are_updates c.args.geometry.now c.args.self.now c.requires.queue c.requires.q c.requires.loose c.requires.holds)

pub add_all-requires-clause-closed : goal.add_all-requires-clause-closed
add_all-requires-clause-closed c =
    subst (λ (t : Table). IsClosedByBlocks (home_of c.args.geometry.now) (shown_by t.nodes.items (length t.nodes.items)) (taken_by t.nodes.items (length t.nodes.items))) (sym c.replace-nodes.ensures.value)
    (closed_nodes c.args.geometry.now c.args.self.now c.requires.queue c.requires.q c.requires.loose c.requires.holds)

pub returns-clause-held : goal.returns-clause-held
returns-clause-held c queue q loose holds =
    let geo = c.args.geometry.now in
    let alone = subst (λ (t : Table). HoldsAlone geo c.add_all.new.self (shown_by t.nodes.items (length t.nodes.items)) (taken_by t.nodes.items (length t.nodes.items))) c.replace-nodes.ensures.value c.add_all.ensures in (
      alone.queue,
      subst (λ l. Holds geo c.add_all.new.self alone.queue l loose) holds.takes.ties.shown
          (subst (Holds geo c.add_all.new.self alone.queue (shown_by c.args.self.now.nodes.items (length c.args.self.now.nodes.items))) (taken_is geo c.args.self.now queue q loose holds) alone.holds),
    )
