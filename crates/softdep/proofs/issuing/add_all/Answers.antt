use Rattle.std.proofs.Common.{All, ◌≡◌, ◌+◌, false, [], ◌∷◌, ◌++◌, sym, ap, ◌∙◌, subst, length, map, arith, append-nil}
use Rattle.std.proofs.lemmas.List.{append_assoc, map-append}
use Rattle.queue_model.specs.Entries.{issued}
use Rattle.queue_model.specs.Blocks.{home_of}
use Rattle.updates.specs.Places.{IsUpdate}
use Rattle.updates.specs.Values.{written}
use Rattle.softdep_queue.specs.Ties.{Holds}
use Rattle.softdep_queue.specs.Rooms.{HasRoom}
use Rattle.softdep.specs.Queued.{added, unmarked, cells_of}
use Rattle.softdep_queue.proofs.RoomLemmas.{less_room}
use Rattle.softdep.proofs.Issued.{added_push, unmarked_push, all_at, subst2_room, nothing_left}
use Rattle.softdep.proofs.issuing.add_all.Goals as goal

pub loop-update-init : goal.loop-update-init
loop-update-init c = record {
  split = sym c.into_iter-update-iterator.ensures.into_iter_gives.0;
  held = c.requires.held;
  room = subst (λ us. HasRoom c.args.table.now (length us) (cells_of us)) (sym c.into_iter-update-iterator.ensures.into_iter_gives.0) c.requires.room;
  holds = λ entries q loose holds. (entries, holds);
}

pub add-requires-clause-held : goal.add-requires-clause-held
add-requires-clause-held c =
    let h = c.loop-update.invariant.held in
    let now = c.loop-update.invariant.holds h.queue h.q h.loose h.holds in
    record { queue = now.0; q = _; loose = _; holds = now.1 }

pub add-requires-clause-cells : goal.add-requires-clause-cells
add-requires-clause-cells c =
    all_at (IsUpdate c.args.geometry.now) c.loop-update.yielded c.in-Some.update c.next.new.self.rest.items
    (subst (All (IsUpdate c.args.geometry.now)) (c.loop-update.invariant.split ∙ ap (λ l. c.loop-update.yielded ++ l) c.in-Some.ensures.steps.0) c.requires.cells)

pub add-requires-clause-room : goal.add-requires-clause-room
add-requires-clause-room c = less_room c.loop-update.table (length c.next.new.self.rest.items) (cells_of c.next.new.self.rest.items) (1 + length c.in-Some.update.after.items)
    (let r = subst (λ us. HasRoom c.loop-update.table (length us) (cells_of us)) c.in-Some.ensures.steps.0 c.loop-update.invariant.room in
    subst2_room c.loop-update.table (length (c.in-Some.update ∷ c.next.new.self.rest.items)) (length c.next.new.self.rest.items + 1) (cells_of (c.in-Some.update ∷ c.next.new.self.rest.items)) (cells_of c.next.new.self.rest.items + (1 + length c.in-Some.update.after.items))
    (omega arith) (omega arith) r)

pub loop-update-preserved : goal.loop-update-preserved
loop-update-preserved c = record {
  split = c.loop-update.invariant.split ∙ ap (λ l. c.loop-update.yielded ++ l) c.in-Some.ensures.steps.0 ∙ sym (append_assoc c.loop-update.yielded (c.in-Some.update ∷ []) c.next.new.self.rest.items);
  held = c.loop-update.invariant.held;
  room = c.add.ensures.room (length c.next.new.self.rest.items) (cells_of c.next.new.self.rest.items)
      (let r = subst (λ us. HasRoom c.loop-update.table (length us) (cells_of us)) c.in-Some.ensures.steps.0 c.loop-update.invariant.room in
      subst2_room c.loop-update.table (length (c.in-Some.update ∷ c.next.new.self.rest.items)) (length c.next.new.self.rest.items + 1) (cells_of (c.in-Some.update ∷ c.next.new.self.rest.items)) (cells_of c.next.new.self.rest.items + (1 + length c.in-Some.update.after.items))
      (omega arith) (omega arith) r);
  holds = λ entries q loose holds.
      let before = c.loop-update.invariant.holds entries q loose holds in
      let now = c.add.ensures.held before.0 (added q (map written c.loop-update.yielded)) (unmarked loose (map written c.loop-update.yielded)) before.1 in
      let entries' = issued (home_of c.args.geometry.now) (written c.in-Some.update).update before.0 in (
        entries',
        subst (λ l. Holds c.args.geometry.now c.add.new.self entries' (added q (map written (c.loop-update.yielded ++ c.in-Some.update ∷ []))) l)
            (sym (ap (unmarked loose) (map-append written c.loop-update.yielded (c.in-Some.update ∷ [])) ∙ unmarked_push loose (map written c.loop-update.yielded) (written c.in-Some.update)))
            (subst (λ p. Holds c.args.geometry.now c.add.new.self entries' p (false ∷ unmarked loose (map written c.loop-update.yielded)))
            (sym (ap (added q) (map-append written c.loop-update.yielded (c.in-Some.update ∷ [])) ∙ added_push q (map written c.loop-update.yielded) (written c.in-Some.update)))
            now),
      );
}

pub returns : goal.returns
returns c entries q loose holds =
    let now = c.loop-update.invariant.holds entries q loose holds in
    let all : c.loop-update.yielded ≡ c.args.updates.items = sym (c.loop-update.invariant.split ∙ ap (λ l. c.loop-update.yielded ++ l) (nothing_left c.loop-update.update-iterator.rest.items (omega (arith, c.in-None.ensures.steps.0, c.loop-update.update-iterator.rest.ok))) ∙ append-nil c.loop-update.yielded) in
    (now.0, subst (λ l. Holds c.args.geometry.now c.loop-update.table now.0 (added q (map written l)) (unmarked loose (map written l))) all now.1)
