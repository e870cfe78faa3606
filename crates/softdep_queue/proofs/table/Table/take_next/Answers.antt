use Rattle.std.proofs.Common.{List, ◌∷◌, true, ap, ◌∙◌, length, arith, slice_set}
use Rattle.std.proofs.lemmas.List.{length-reverse, length-map, length-set}
use Rattle.std.specs.Vec.{with_item}
use Rattle.model.specs.Layout.{Geometry as Numbers}
use Rattle.ordering.specs.Cuts.{Pending}
use Rattle.queue_model.specs.Blocks.{home_of}
use Rattle.queue_model.specs.Entries.{Entry, Queue}
use Rattle.lists.specs.Stacks.{stack_at, Links}
use Rattle.softdep_queue.specs.declared.table.Node.{Node}
use Rattle.softdep_queue.specs.declared.table.Table.{Table}
use Rattle.softdep_queue.specs.Ties.{Takes, due_after}
use Rattle.softdep_queue.proofs.Steps.{read}
use Rattle.softdep_queue.proofs.Taken.{IsMoved, moved_to, moved_ties, ids, few_taken, none_left, next_entry, next_listed, next_id, next_home, next_low, next_taken, waits_next, may_be_released, takes_more}
use Rattle.softdep_queue.proofs.table.Table.take_next.Goals as goal

pub returns-in_default-clause-next : goal.returns-in_default-clause-next
returns-in_default-clause-next c geo queue q es takes = (
  none_left geo c.args.self.now queue q c.args.address es takes c.in_default.ensures.popped,
  ap (λ (r : Links). record c.args.self.now { ready = r }) c.in_default.ensures.none,
)

pub push_reserved-requires : goal.push_reserved-requires
push_reserved-requires c =
    let h = c.requires.held.1 in
    let t = c.args.self.now in
    let rest = stack_at c.pop.new.self c.args.address in
    let few = few_taken c.requires.held.0 t h.queue h.q _ _ h.takes.ties (next_entry c.requires.held.0 t h.queue h.q c.args.address h.ws h.takes c.in-Some.number rest c.in-Some.ensures.popped ∷ h.ws)
    (next_taken c.requires.held.0 t h.queue h.q c.args.address h.ws h.takes c.in-Some.number rest c.in-Some.ensures.popped) in
    let taken = ap length h.takes.taken ∙ length-reverse (ids h.ws) ∙ length-map h.ws (λ (e : Entry). e.id) in
    let spare = h.takes.ties.spare in
    omega (arith, few, taken, spare)

pub index_mut-requires : goal.index_mut-requires
index_mut-requires c =
    let h = c.requires.held.1 in
    let low = next_low c.requires.held.0 c.args.self.now h.queue h.q c.args.address h.ws h.takes c.in-Some.number (stack_at c.pop.new.self c.args.address) c.in-Some.ensures.popped in
    omega (arith, low)

-- ---- the table with the number moved

module _ (c : goal.After-lower-arg-1) where
  abbrev t : Table
  t = c.args.self.now

  abbrev now : Table
  now = record c.args.self.now {
    nodes = with_item c.args.self.now.nodes c.in-Some.number (record {
      home = c.index_mut.result.now.home;
      update = c.index_mut.result.now.update;
      waiting = c.index_mut.result.now.waiting;
      taken = true;
      waiters = c.index_mut.result.now.waiters;
    });
    ready = c.pop.new.self;
    taken = c.push_reserved.new.self;
  }

  module _ (geo : Numbers) (queue : Queue) (q : List Pending) (ws : List Entry) (takes : Takes geo c.args.self.now queue q ws) where
    moved : IsMoved c.args.self.now now c.args.address c.in-Some.number
    moved =
        let low = next_low geo t queue q c.args.address ws takes c.in-Some.number (stack_at c.pop.new.self c.args.address) c.in-Some.ensures.popped in
        moved_to t c.pop.new.self c.push_reserved.new.self now.nodes c.args.address c.in-Some.number
        (ap (λ (y : Node). slice_set t.nodes.items c.in-Some.number (record { home = y.home; update = y.update; waiting = y.waiting; taken = true; waiters = y.waiters }))
        (read t.nodes.items c.in-Some.number c.index_mut.result.now low c.index_mut.ensures.value))
        low c.in-Some.ensures.popped c.in-Some.ensures.others c.in-Some.ensures.none c.in-Some.ensures.count c.in-Some.ensures.room c.push_reserved.ensures.items c.push_reserved.ensures.capacity

pub lower-requires : goal.lower-requires
lower-requires c =
    let geo = c.requires.held.0 in
    let h = c.requires.held.1 in
    may_be_released geo (t c) h.queue h.q c.args.address h.ws h.takes c.in-Some.number (stack_at c.pop.new.self c.args.address) c.in-Some.ensures.popped (now c) (moved c geo h.queue h.q h.ws h.takes)

pub returns-clause-next : goal.returns-clause-next
returns-clause-next c geo queue q es takes =
    let a = c.args.address in
    let number = c.in-Some.number in
    let rest = stack_at c.pop.new.self a in
    let popped = c.in-Some.ensures.popped in
    let low = next_low geo c.args.self.now queue q a es takes number rest popped in
    let item : Node = record { home = c.index_mut.result.now.home; update = c.index_mut.result.now.update; waiting = c.index_mut.result.now.waiting; taken = true; waiters = c.index_mut.result.now.waiters } in
    let t1 : Table = record c.args.self.now { nodes = with_item c.args.self.now.nodes number item; ready = c.pop.new.self; taken = c.push_reserved.new.self } in
    let is_moved = moved_to c.args.self.now c.pop.new.self c.push_reserved.new.self t1.nodes a number
    (ap (λ (y : Node). slice_set c.args.self.now.nodes.items number (record { home = y.home; update = y.update; waiting = y.waiting; taken = true; waiters = y.waiters })) (read c.args.self.now.nodes.items number c.index_mut.result.now low c.index_mut.ensures.value))
    low popped c.in-Some.ensures.others c.in-Some.ensures.none c.in-Some.ensures.count c.in-Some.ensures.room c.push_reserved.ensures.items c.push_reserved.ensures.capacity in
    let e = next_entry geo c.args.self.now queue q a es takes number rest popped in
    let id = next_id geo c.args.self.now queue q a es takes number rest popped in
    let lowered = c.lower.ensures.lowered geo queue q (due_after (home_of geo) queue es) a e (moved_ties geo c.args.self.now queue q a es takes number rest popped t1 is_moved)
    (next_listed geo c.args.self.now queue q a es takes number rest popped) id (waits_next geo c.args.self.now queue q a es takes number rest popped t1 is_moved) in (
      e,
      id,
      next_home geo c.args.self.now queue q a es takes number rest popped,
      takes_more geo c.args.self.now queue q a es takes number rest popped t1 is_moved c.lower.new.self lowered c.lower.ensures.taken,
    )

pub returns-clause-room : goal.returns-clause-room
returns-clause-room c updates cells has =
    let item : Node = record { home = c.index_mut.result.now.home; update = c.index_mut.result.now.update; waiting = c.index_mut.result.now.waiting; taken = true; waiters = c.index_mut.result.now.waiters } in
    let long = length-set c.args.self.now.nodes.items c.in-Some.number item in
    let nodes = has.nodes in
    let taken = has.taken in
    let capacity = c.push_reserved.ensures.capacity in
    let ready = has.ready in
    let room = c.in-Some.ensures.room in
    let few = has.few in
    c.lower.ensures.room updates cells (record {
      nodes = omega (arith, nodes, long);
      taken = omega (arith, taken, capacity, long);
      ready = omega (arith, ready, room, long);
      few = omega (arith, few, room);
      links = has.links;
    })
