use Rattle.std.proofs.Common.{◌≡◌, sym, ap, ◌∙◌, subst, map}
use Rattle.updates.specs.Values.{written}
use Rattle.softdep_queue.specs.Ties.{Holds}
use Rattle.softdep.specs.Queued.{Queued, IsQueue, after, fresh_queue, issued, added, unmarked, unsynced_of, pending_of}
use Rattle.softdep.specs.declared.queue.Kind.TheVariants.{Issued}
use Rattle.softdep.proofs.Issued.{after_push, loose_issued}
use Rattle.softdep.proofs.Queues.{pending_issued, unsynced_issued, geometry_issued, closed_issued}
use Rattle.softdep.proofs.queue.Queue.issue.Goals as goal

pub make_room-requires : goal.make_room-requires
make_room-requires c =
    let geo = c.self.inside.geometry in
    let v : Queued = after (fresh_queue geo) c.self.inside.events.items in
    let anew = c.begin_anew.ensures geo c.self.invariant.entries (unsynced_of v) v.loose c.self.invariant.holds in
    record { queue = anew.0; q = unsynced_of v; loose = v.loose; holds = anew.1 }

pub invariant_of-self : goal.invariant_of-self
invariant_of-self c =
    let geo = c.self.inside.geometry in
    let v : Queued = after (fresh_queue geo) c.self.inside.events.items in
    let anew = c.begin_anew.ensures geo c.self.invariant.entries (unsynced_of v) v.loose c.self.invariant.holds in
    let moved = c.in_err-make_room.ensures.held anew.0 (unsynced_of v) v.loose anew.1 in
    record { entries = moved.0; holds = moved.1; closed = c.self.invariant.closed; same = c.self.invariant.same }

pub add_all-requires-clause-held : goal.add_all-requires-clause-held
add_all-requires-clause-held c =
    let geo = c.self.inside.geometry in
    let v : Queued = after (fresh_queue geo) c.self.inside.events.items in
    let anew = c.begin_anew.ensures geo c.self.invariant.entries (unsynced_of v) v.loose c.self.invariant.holds in
    let moved = c.in_ok-make_room.ensures.held anew.0 (unsynced_of v) v.loose anew.1 in
    record { queue = moved.0; q = unsynced_of v; loose = v.loose; holds = moved.1 }

module _ (c : goal.After-add_all) where
  abbrev v : Queued
  v = after (fresh_queue c.self.inside.geometry) c.self.inside.events.items

  -- the history with the issue
  next : after (fresh_queue c.self.inside.geometry) c.and-self-inside.result.items ≡ issued (after (fresh_queue c.self.inside.geometry) c.self.inside.events.items) (map written c.args.updates.items)
  next = ap (after (fresh_queue c.self.inside.geometry)) c.and-self-inside.ensures ∙ after_push (fresh_queue c.self.inside.geometry) c.self.inside.events.items (c.args.updates, Issued)

pub invariant_of-self-2 : goal.invariant_of-self-2
invariant_of-self-2 c =
    let geo = c.self.inside.geometry in
    let ws = map written c.args.updates.items in
    let anew = c.begin_anew.ensures geo c.self.invariant.entries (unsynced_of (v c)) (v c).loose c.self.invariant.holds in
    let moved = c.in_ok-make_room.ensures.held anew.0 (unsynced_of (v c)) (v c).loose anew.1 in
    let now = c.add_all.ensures moved.0 (unsynced_of (v c)) (v c).loose moved.1 in
    subst (IsQueue geo c.add_all.new.table) (sym (next c)) (record {
      entries = now.0;
      holds = subst (Holds geo c.add_all.new.table now.0 (unsynced_of (issued (v c) ws))) (sym (loose_issued (v c) ws))
          (subst (λ q. Holds geo c.add_all.new.table now.0 q (unmarked (v c).loose ws)) (sym (unsynced_issued (v c) ws)) now.1);
      closed = closed_issued (v c) ws c.self.invariant.closed;
      same = geometry_issued (v c) ws ∙ c.self.invariant.same;
    })

pub returns-clause-issued : goal.returns-clause-issued
returns-clause-issued c = next c ∙ ap (λ (w : Queued). issued w (map written c.args.updates.items)) c.self.view_is

pub returns-clause-pending : goal.returns-clause-pending
returns-clause-pending c =
    ap pending_of (next c) ∙ pending_issued (v c) (map written c.args.updates.items) ∙ ap (λ (w : Queued). added (pending_of w) (map written c.args.updates.items)) c.self.view_is
