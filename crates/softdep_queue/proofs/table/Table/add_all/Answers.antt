use Rattle.std.proofs.Common.{◌≡◌, ℕ, ◌+◌, Bool, List, [], ◌∷◌, ◌++◌, Some, None, sym, ap, ◌∙◌, subst, length}
use Rattle.std.proofs.lemmas.List.{append_assoc}
use Rattle.ordering.specs.Cuts.{Pending}
use Rattle.queue_model.specs.Blocks.{home_of}
use Rattle.updates.specs.declared.change.Update.{Update}
use Rattle.updates.specs.Places.{IsUpdate}
use Rattle.softdep_queue.specs.declared.table.Node.{Node}
use Rattle.softdep_queue.specs.Adding.{update_of}
use Rattle.softdep_queue.specs.Ties.{shown_by}
use Rattle.softdep_queue.specs.Rooms.{HasRoom}
use Rattle.softdep_queue.specs.Moving.{taken_by, IsClosedByBlocks, HoldsAlone}
use Rattle.softdep_queue.proofs.Moved.{next_node, next_shown, next_taken, closed_at, room_for_it, room_behind_it, room_without}
use Rattle.softdep_queue.proofs.table.Table.add_all.Goals as goal

pub add_again-requires-clause-cells : goal.add_again-requires-clause-cells
add_again-requires-clause-cells c =
    let split : c.args.nodes.items ≡ c.loop-node.yielded ++ c.in-Some.node ∷ c.next.new.self.rest.items = c.loop-node.invariant.split ∙ ap (λ l. c.loop-node.yielded ++ l) c.in-Some.ensures.steps.0 in
    let node = next_node c.args.nodes.items c.loop-node.yielded c.in-Some.node c.next.new.self.rest.items split in
    subst (IsUpdate c.args.geometry.now) (sym c.in-Some-update.update-is) (c.loop-node.invariant.cells (length c.loop-node.yielded) c.in-Some-update.update (ap (λ (x : Node). x.update) node ∙ c.in-Some-update.is))

pub add_again-requires-clause-alone : goal.add_again-requires-clause-alone
add_again-requires-clause-alone c = (shown_by c.args.nodes.items (length c.loop-node.yielded), taken_by c.args.nodes.items (length c.loop-node.yielded), c.loop-node.invariant.alone)

pub add_again-requires-clause-room : goal.add_again-requires-clause-room
add_again-requires-clause-room c =
    let split : c.args.nodes.items ≡ c.loop-node.yielded ++ c.in-Some.node ∷ c.next.new.self.rest.items = c.loop-node.invariant.split ∙ ap (λ l. c.loop-node.yielded ++ l) c.in-Some.ensures.steps.0 in
    subst (λ (u : Update). HasRoom c.loop-node.self 1 (1 + length u.after.items)) (sym c.in-Some-update.update-is)
    (room_for_it c.args.nodes.items c.loop-node.yielded c.in-Some.node c.next.new.self.rest.items split c.loop-node.self c.loop-node.invariant.room c.in-Some-update.update c.in-Some-update.is)

pub loop-node-preserved-in-Some-update : goal.loop-node-preserved-in-Some-update
loop-node-preserved-in-Some-update c =
    let geo = c.args.geometry.now in
    let ns = c.args.nodes.items in
    let done = c.loop-node.yielded in
    let x = c.in-Some.node in
    let rest = c.next.new.self.rest.items in
    let u = c.in-Some-update.update in
    let split : ns ≡ done ++ x ∷ rest = c.loop-node.invariant.split ∙ ap (λ l. done ++ l) c.in-Some.ensures.steps.0 in
    let shown = next_shown ns done x rest split (Some u) c.in-Some-update.is in
    let taken = next_taken ns done x rest split (Some u) c.in-Some-update.is in
    let held = subst (λ (u : Update). (q : List Pending) (loose : List Bool) → HoldsAlone geo c.loop-node.self q loose → IsClosedByBlocks (home_of geo) (update_of u ∷ q) (x.taken ∷ loose) → HoldsAlone geo c.add_again.new.self (update_of u ∷ q) (x.taken ∷ loose))
    c.in-Some-update.update-is c.add_again.ensures.held in
    let keeps = subst (λ (u : Update). (updates cells : ℕ) → HasRoom c.loop-node.self (updates + 1) (cells + (1 + length u.after.items)) → HasRoom c.add_again.new.self updates cells) c.in-Some-update.update-is c.add_again.ensures.room in
    let closed = subst (IsClosedByBlocks (home_of geo) (update_of u ∷ shown_by ns (length done))) taken
    (subst (λ l. IsClosedByBlocks (home_of geo) l (taken_by ns (length (done ++ x ∷ [])))) shown (closed_at (home_of geo) ns done x rest split c.loop-node.invariant.closed)) in
    record {
      split = split ∙ sym (append_assoc done (x ∷ []) rest);
      cells = c.loop-node.invariant.cells;
      closed = c.loop-node.invariant.closed;
      alone = subst (HoldsAlone geo c.add_again.new.self (shown_by ns (length (done ++ x ∷ [])))) (sym taken)
          (subst (λ l. HoldsAlone geo c.add_again.new.self l (x.taken ∷ taken_by ns (length done))) (sym shown) (held (shown_by ns (length done)) (taken_by ns (length done)) c.loop-node.invariant.alone closed));
      room = room_behind_it ns done x rest split c.loop-node.self c.loop-node.invariant.room u c.in-Some-update.is c.add_again.new.self keeps;
    }

pub loop-node-preserved : goal.loop-node-preserved
loop-node-preserved c =
    let ns = c.args.nodes.items in
    let done = c.loop-node.yielded in
    let x = c.in-Some.node in
    let rest = c.next.new.self.rest.items in
    let split : ns ≡ done ++ x ∷ rest = c.loop-node.invariant.split ∙ ap (λ l. done ++ l) c.in-Some.ensures.steps.0 in
    record {
      split = split ∙ sym (append_assoc done (x ∷ []) rest);
      cells = c.loop-node.invariant.cells;
      closed = c.loop-node.invariant.closed;
      alone = subst (HoldsAlone c.args.geometry.now c.loop-node.self (shown_by ns (length (done ++ x ∷ [])))) (sym (next_taken ns done x rest split None c.in_default.is))
          (subst (λ l. HoldsAlone c.args.geometry.now c.loop-node.self l (taken_by ns (length done))) (sym (next_shown ns done x rest split None c.in_default.is)) c.loop-node.invariant.alone);
      room = room_without ns done x rest split c.loop-node.self c.in_default.is c.loop-node.invariant.room;
    }
