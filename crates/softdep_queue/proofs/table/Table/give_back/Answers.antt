use Rattle.std.proofs.Common.{◌≡◌, ◌-◌, ◌<◌, false, [], ◌∷◌, ◌++◌, refl, sym, ap, ◌∙◌, subst, Contains, length, take, arith, slice_set}
use Rattle.std.proofs.lemmas.List.{append_assoc}
use Rattle.queue_model.specs.Blocks.{home_of}
use Rattle.lists.specs.Stacks.{stack_at}
use Rattle.softdep_queue.specs.declared.table.Node.{Node}
use Rattle.softdep_queue.specs.declared.table.Table.{Table}
use Rattle.softdep_queue.specs.Ties.{due_after}
use Rattle.softdep_queue.specs.Returning.{AreFree}
use Rattle.softdep_queue.proofs.GivenBack.{pushes, stays, at_place, shows_pushed, begins, ends, ids_left, with_next, taken_many, next_number, next_listed, next_free, next_low, next_block, next_new, goes_back}
use Rattle.softdep_queue.proofs.Steps.{read}
use Rattle.softdep_queue.proofs.table.Table.give_back.Goals as goal
use Rattle.softdep_queue.proofs.table.Table.give_back.Goals.{then-index-eq0, else-index-eq0}

pub overflow_sub-first : goal.overflow_sub-first
overflow_sub-first c =
    let r = c.requires in
    let h = r.taken in
    let many = taken_many r.geo c.args.self.now r.queue r.q c.args.address h.es h.older h.takes h.own h.all in
    let count = h.count in
    let len = c.len.ensures in
    omega (arith, many, count, len)

pub loop-k-init : goal.loop-k-init
loop-k-init c = record {
  taken = refl;
  from = (let len = c.len.ensures in omega (arith, len));
  back = λ geo queue q loose h newer back whole at.
      let many = taken_many geo c.args.self.now queue q c.args.address h.es h.older h.takes h.own h.all in
      let count = h.count in
      let len = c.len.ensures in
      begins geo c.args.self.now queue q c.args.address h.es h.older h.takes h.own h.all newer back whole (omega (arith, many, count, len, at));
}

-- ---- the next one

pub index-requires : goal.index-requires
index-requires c =
    let r = c.requires in
    let h = r.taken in
    let n = (
    let many = taken_many r.geo c.args.self.now r.queue r.q c.args.address h.es h.older h.takes h.own h.all in
    let count = h.count in
    let from = c.loop-k.invariant.from in
    let below = c.loop-k-test.true in
    let end = c.len-k-end.ensures in
    at_place r.geo c.args.self.now r.queue r.q c.args.address h.es h.older h.takes h.own h.all c.loop-k.self c.loop-k.k c.index-number.result.now c.loop-k.invariant.taken
    (omega (arith, many, count, from)) (omega (arith, below, end)) c.index-number.ensures (c.loop-k.invariant.back r.geo r.queue r.q r.loose h)
    ) in
    let low = next_low r.geo c.args.self.now r.queue r.q c.args.address h.es h.older h.takes h.own h.all n.newer n.next n.back n.all c.loop-k.self n.before in
    let number = n.number in
    omega (arith, low, number)

pub push-requires-clause-block : goal.push-requires-clause-block
push-requires-clause-block c =
    let r = c.requires in
    let h = r.taken in
    let n = (
    let many = taken_many r.geo c.args.self.now r.queue r.q c.args.address h.es h.older h.takes h.own h.all in
    let count = h.count in
    let from = c.loop-k.invariant.from in
    let below = c.loop-k-test.true in
    let end = c.len-k-end.ensures in
    at_place r.geo c.args.self.now r.queue r.q c.args.address h.es h.older h.takes h.own h.all c.loop-k.self c.loop-k.k c.index-number.result.now c.loop-k.invariant.taken
    (omega (arith, many, count, from)) (omega (arith, below, end)) c.index-number.ensures (c.loop-k.invariant.back r.geo r.queue r.q r.loose h)
    ) in
    next_block r.geo c.args.self.now r.queue r.q c.args.address h.es h.older h.takes h.own h.all n.newer n.next n.back n.all c.loop-k.self n.before

pub push-requires-clause-room : goal.push-requires-clause-room
push-requires-clause-room c =
    let r = c.requires in
    let h = r.taken in
    let n = (
    let many = taken_many r.geo c.args.self.now r.queue r.q c.args.address h.es h.older h.takes h.own h.all in
    let count = h.count in
    let from = c.loop-k.invariant.from in
    let below = c.loop-k-test.true in
    let end = c.len-k-end.ensures in
    at_place r.geo c.args.self.now r.queue r.q c.args.address h.es h.older h.takes h.own h.all c.loop-k.self c.loop-k.k c.index-number.result.now c.loop-k.invariant.taken
    (omega (arith, many, count, from)) (omega (arith, below, end)) c.index-number.ensures (c.loop-k.invariant.back r.geo r.queue r.q r.loose h)
    ) in
    let low = next_low r.geo c.args.self.now r.queue r.q c.args.address h.es h.older h.takes h.own h.all n.newer n.next n.back n.all c.loop-k.self n.before in
    let number = n.number in
    let room = n.before.shows.room in
    omega (arith, low, number, room)

pub push-requires-clause-new : goal.push-requires-clause-new
push-requires-clause-new c b m =
    let r = c.requires in
    let h = r.taken in
    let n = (
    let many = taken_many r.geo c.args.self.now r.queue r.q c.args.address h.es h.older h.takes h.own h.all in
    let count = h.count in
    let from = c.loop-k.invariant.from in
    let below = c.loop-k-test.true in
    let end = c.len-k-end.ensures in
    at_place r.geo c.args.self.now r.queue r.q c.args.address h.es h.older h.takes h.own h.all c.loop-k.self c.loop-k.k c.index-number.result.now c.loop-k.invariant.taken
    (omega (arith, many, count, from)) (omega (arith, below, end)) c.index-number.ensures (c.loop-k.invariant.back r.geo r.queue r.q r.loose h)
    ) in
    next_new r.geo c.args.self.now r.queue r.q c.args.address h.es h.older h.takes h.own h.all n.newer n.next n.back n.all c.loop-k.self n.before b (subst (λ i. Contains (stack_at c.loop-k.self.ready b) i) n.number m)

pub raise-requires : goal.raise-requires
raise-requires c =
    let r = c.requires in
    let h = r.taken in
    let n = (
    let many = taken_many r.geo c.args.self.now r.queue r.q c.args.address h.es h.older h.takes h.own h.all in
    let count = h.count in
    let from = c.loop-k.invariant.from in
    let below = c.loop-k-test.true in
    let end = c.len-k-end.ensures in
    at_place r.geo c.args.self.now r.queue r.q c.args.address h.es h.older h.takes h.own h.all c.loop-k.self c.loop-k.k c.index-number.result.now c.loop-k.invariant.taken
    (omega (arith, many, count, from)) (omega (arith, below, end)) c.index-number.ensures (c.loop-k.invariant.back r.geo r.queue r.q r.loose h)
    ) in
    let due = due_after (home_of r.geo) r.queue ((n.newer ++ n.next ∷ []) ++ h.older) in
    record {
      geo = r.geo;
      queue = r.queue;
      q = r.q;
      due = due;
      block = c.args.address;
      entry = n.next;
      shows = shows_pushed r.geo c.loop-k.self c.if-index-eq0.self r.queue r.q due c.args.address c.index-number.result.now c.index.result.now.waiting (elim c.if-index-eq0.branch [
        | then-index-eq0 w ↦ pushes c.loop-k.self c.if-index-eq0.self c.args.address c.index-number.result.now c.index.result.now.waiting w.push.new.self w.self-is w.if-index-eq0.true w.push.ensures.count w.push.ensures.room w.push.ensures.pushed w.push.ensures.others
        | else-index-eq0 w ↦ stays c.loop-k.self c.if-index-eq0.self c.args.address c.index-number.result.now c.index.result.now.waiting w.self-is w.if-index-eq0.false
      ]) n.before.shows;
      listed = next_listed r.geo c.args.self.now r.queue r.q c.args.address h.es h.older h.takes h.own h.all n.newer n.next n.back n.all;
      id = sym n.number;
      free = subst (AreFree r.queue due c.args.address) (sym n.number) (next_free r.geo c.args.self.now r.queue r.q c.args.address h.es h.older h.takes h.own h.all n.newer n.next n.back n.all);
    }

pub index_mut-requires : goal.index_mut-requires
index_mut-requires c =
    let r = c.requires in
    let h = r.taken in
    let n = (
    let many = taken_many r.geo c.args.self.now r.queue r.q c.args.address h.es h.older h.takes h.own h.all in
    let count = h.count in
    let from = c.loop-k.invariant.from in
    let below = c.loop-k-test.true in
    let end = c.len-k-end.ensures in
    at_place r.geo c.args.self.now r.queue r.q c.args.address h.es h.older h.takes h.own h.all c.loop-k.self c.loop-k.k c.index-number.result.now c.loop-k.invariant.taken
    (omega (arith, many, count, from)) (omega (arith, below, end)) c.index-number.ensures (c.loop-k.invariant.back r.geo r.queue r.q r.loose h)
    ) in
    let due = due_after (home_of r.geo) r.queue ((n.newer ++ n.next ∷ []) ++ h.older) in
    let listed = next_listed r.geo c.args.self.now r.queue r.q c.args.address h.es h.older h.takes h.own h.all n.newer n.next n.back n.all in
    let shows = c.raise.ensures.raised r.geo r.queue r.q due c.args.address n.next (shows_pushed r.geo c.loop-k.self c.if-index-eq0.self r.queue r.q due c.args.address c.index-number.result.now c.index.result.now.waiting (elim c.if-index-eq0.branch [
      | then-index-eq0 w ↦ pushes c.loop-k.self c.if-index-eq0.self c.args.address c.index-number.result.now c.index.result.now.waiting w.push.new.self w.self-is w.if-index-eq0.true w.push.ensures.count w.push.ensures.room w.push.ensures.pushed w.push.ensures.others
      | else-index-eq0 w ↦ stays c.loop-k.self c.if-index-eq0.self c.args.address c.index-number.result.now c.index.result.now.waiting w.self-is w.if-index-eq0.false
    ]) n.before.shows) listed (sym n.number)
    (subst (AreFree r.queue due c.args.address) (sym n.number) (next_free r.geo c.args.self.now r.queue r.q c.args.address h.es h.older h.takes h.own h.all n.newer n.next n.back n.all)) in
    let low = next_low r.geo c.args.self.now r.queue r.q c.args.address h.es h.older h.takes h.own h.all n.newer n.next n.back n.all c.loop-k.self n.before in
    let number = n.number in
    let now = shows.next in
    let before = n.before.shows.next in
    omega (arith, low, number, now, before)

pub loop-k-preserved : goal.loop-k-preserved
loop-k-preserved c = record {
  taken = c.raise.ensures.taken ∙ elim c.if-index-eq0.branch [ then-index-eq0 w ↦ ap (λ (t : Table). t.taken) w.self-is | else-index-eq0 w ↦ ap (λ (t : Table). t.taken) w.self-is ] ∙ c.loop-k.invariant.taken;
  from = (let from = c.loop-k.invariant.from in omega (arith, from));
  back = λ geo queue q loose h.
      let many = taken_many geo c.args.self.now queue q c.args.address h.es h.older h.takes h.own h.all in
      let count = h.count in
      let from = c.loop-k.invariant.from in
      with_next geo c.args.self.now queue q c.args.address h.es h.older h.takes h.own h.all c.loop-k.k _ (omega (arith, many, count, from)) (λ newer e back whole at.
      let before = c.loop-k.invariant.back geo queue q loose h (newer ++ e ∷ []) back (whole ∙ sym (append_assoc newer (e ∷ []) back)) at in
      let number = next_number geo c.args.self.now queue q c.args.address h.es h.older h.takes h.own h.all newer e back whole c.loop-k.self c.loop-k.k c.index-number.result.now at c.loop-k.invariant.taken c.index-number.ensures in
      let due = due_after (home_of geo) queue ((newer ++ e ∷ []) ++ h.older) in
      let listed = next_listed geo c.args.self.now queue q c.args.address h.es h.older h.takes h.own h.all newer e back whole in
      let shown = shows_pushed geo c.loop-k.self c.if-index-eq0.self queue q due c.args.address c.index-number.result.now c.index.result.now.waiting (elim c.if-index-eq0.branch [
        | then-index-eq0 w ↦ pushes c.loop-k.self c.if-index-eq0.self c.args.address c.index-number.result.now c.index.result.now.waiting w.push.new.self w.self-is w.if-index-eq0.true w.push.ensures.count w.push.ensures.room w.push.ensures.pushed w.push.ensures.others
        | else-index-eq0 w ↦ stays c.loop-k.self c.if-index-eq0.self c.args.address c.index-number.result.now c.index.result.now.waiting w.self-is w.if-index-eq0.false
      ]) before.shows in
      let free = next_free geo c.args.self.now queue q c.args.address h.es h.older h.takes h.own h.all newer e back whole in
      let raised = c.raise.ensures.raised geo queue q due c.args.address e shown listed (sym number) (subst (AreFree queue due c.args.address) (sym number) free) in
      let low = next_low geo c.args.self.now queue q c.args.address h.es h.older h.takes h.own h.all newer e back whole c.loop-k.self before in
      let now = raised.next in
      let was = before.shows.next in
      let there : c.index-number.result.now < length c.raise.new.self.nodes.items = omega (arith, low, number, now, was) in
      goes_back geo c.args.self.now queue q c.args.address h.es h.older h.takes h.own h.all newer e back whole c.loop-k.self before c.if-index-eq0.self c.raise.new.self _ c.index-number.result.now c.index.result.now number c.index.ensures (elim c.if-index-eq0.branch [
        | then-index-eq0 w ↦ pushes c.loop-k.self c.if-index-eq0.self c.args.address c.index-number.result.now c.index.result.now.waiting w.push.new.self w.self-is w.if-index-eq0.true w.push.ensures.count w.push.ensures.room w.push.ensures.pushed w.push.ensures.others
        | else-index-eq0 w ↦ stays c.loop-k.self c.if-index-eq0.self c.args.address c.index-number.result.now c.index.result.now.waiting w.self-is w.if-index-eq0.false
      ])
      (λ shows id free. c.raise.ensures.raised geo queue q due c.args.address e shows listed id free)
      c.raise.ensures.ready c.raise.ensures.flags (
        ap (λ (y : Node). slice_set c.raise.new.self.nodes.items c.index-number.result.now (record { home = y.home; update = y.update; waiting = y.waiting; taken = false; waiters = y.waiters }))
            (read c.raise.new.self.nodes.items c.index-number.result.now c.index_mut.result.now there c.index_mut.ensures.value),
        there,
      )
      refl refl refl refl refl);
}

pub returns : goal.returns
returns c geo queue q loose h =
    let many = taken_many geo c.args.self.now queue q c.args.address h.es h.older h.takes h.own h.all in
    let count = h.count in
    let len = c.len.ensures in
    let first : c.len.result - c.args.count ≡ length h.older = omega (arith, many, count, len) in
    ends geo c.args.self.now queue q c.args.address h.es h.older h.takes h.own h.all loose h.cut c.loop-k.self c.truncate.new.self
    (c.truncate.ensures.items ∙ ap (λ v. take (c.len.result - c.args.count) v.items) c.loop-k.invariant.taken ∙ ap (take (c.len.result - c.args.count)) h.takes.taken ∙ ids_left h.es h.older (c.len.result - c.args.count) first)
    c.truncate.ensures.capacity
    (λ newer back whole at.
    let end = c.len-k-end.ensures in
    let low = c.loop-k.auto.k-end in
    let high = c.loop-k-test.false in
    c.loop-k.invariant.back geo queue q loose h newer back whole (omega (arith, at, many, count, end, low, high)))
