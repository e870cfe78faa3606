use Rattle.std.proofs.Common.{◌≡◌, ◌+◌, ◌<◌, ◌^◌, false, [], ◌∷◌, ◌++◌, ◌⊎◌, inl, inr, ℕ, refl, sym, ap, ap₂, ◌∙◌, subst, Contains, length, map, arith, Some}
use Rattle.std.proofs.lemmas.List.{length-map}
use Rattle.std.specs.Vec.{vec_capacity}
use Rattle.model.specs.Layout.{Geometry as Numbers}
use Rattle.ordering.specs.Cuts.{Pending, cell_of}
use Rattle.queue_model.specs.Blocks.{home_of}
use Rattle.queue_model.specs.Entries.{new_entry}
use Rattle.queue_model.proofs.Lists.{contains_head}
use Rattle.updates.specs.Places.{place_of, place_count}
use Rattle.updates.specs.Values.{cell}
use Rattle.lists.specs.Stacks.{stack_at, count_of, room_of}
use Rattle.softdep_queue.specs.declared.table.Node.{Node}
use Rattle.softdep_queue.specs.declared.table.Table.{Table}
use Rattle.softdep_queue.specs.Adding.{update_of, lasts, counted, IsBehind}
use Rattle.softdep_queue.proofs.Waits.{lasts_few}
use Rattle.softdep_queue.proofs.Additions.{IsReadied, IsAdded, IsNodeFor, few_pending, next_not_stacked, waits_are, readied_at, room_left, stacks_more, stacks_still, added_holds}
use Rattle.softdep_queue.proofs.table.Table.add.Goals as goal
use Rattle.softdep_queue.proofs.table.Table.add.Goals.{then-waiting-eq0, else-waiting-eq0}

pub push-requires-clause-new : goal.push-requires-clause-new
push-requires-clause-new c b m =
    next_not_stacked c.args.geometry.now c.args.self.now c.requires.held.queue c.requires.held.q c.requires.held.holds.written c.requires.held.holds.takes b
    (subst (λ v. Contains (stack_at v b) (length c.args.self.now.nodes.items)) c.wait-waiting.ensures.behind.ready (subst (λ i. Contains (stack_at c.wait-waiting.new.self.ready b) i) (let len = c.len-number.ensures in let is : c.len-number.result ≡ length c.args.self.now.nodes.items = omega (arith, len) in is) m))

pub overflow_add-self : goal.overflow_add-self
overflow_add-self c =
    let same : c.if-waiting-eq0.self.pending ≡ c.wait-waiting.new.self.pending = elim c.if-waiting-eq0.branch [
      | then-waiting-eq0 w ↦ ap (λ (t : Table). t.pending) w.self-is
      | else-waiting-eq0 w ↦ ap (λ (t : Table). t.pending) w.self-is
    ] in
    let before = c.wait-waiting.ensures.behind.pending in
    let ties = c.requires.held.holds.takes.ties in
    let count = ties.pending in
    let next = ties.next in
    let few = few_pending c.requires.held.queue.next ties.represents.entries c.requires.held.q ties.represents.stand in
    let room = c.requires.room.ready in
    let low = c.requires.room.few in
    omega (arith, same, before, count, next, few, room, low)

module _ (c : goal.After-self-2-1) where
  abbrev geo : Numbers
  geo = c.args.geometry.now

  abbrev t : Table
  t = c.args.self.now

  abbrev u : Pending
  u = update_of c.args.update

  number : c.len-number.result ≡ length t.nodes.items
  number = let len = c.len-number.ensures in omega (arith, len)

  behind : IsBehind t c.wait-waiting.new.self (length t.nodes.items) (lasts geo t (cell_of u.change ∷ u.after))
  behind =
      subst (λ n. IsBehind t c.wait-waiting.new.self n (lasts geo t (cell_of u.change ∷ u.after))) number
      (subst (λ x. IsBehind t c.wait-waiting.new.self c.len-number.result (lasts geo t (x ∷ u.after))) c.cell-own.ensures
      (subst (λ l. IsBehind t c.wait-waiting.new.self c.len-number.result (lasts geo t (cell c.cell-own.result ∷ map cell l))) c.as_slice.ensures c.wait-waiting.ensures.behind))

  place : c.place.result ≡ place_of geo (cell_of u.change)
  place = c.place.ensures.place ∙ ap (place_of geo) c.cell-own.ensures

  readied : IsReadied c.wait-waiting.new.self c.if-waiting-eq0.self (place_of geo (cell_of u.change)) (length t.nodes.items) c.home-home.result c.wait-waiting.result
  readied = readied_at c.wait-waiting.new.self c.if-waiting-eq0.self c.place.result (place_of geo (cell_of u.change)) c.len-number.result (length t.nodes.items) c.home-home.result c.wait-waiting.result place number
      (elim c.if-waiting-eq0.branch [
        | then-waiting-eq0 w ↦ subst (λ s. IsReadied c.wait-waiting.new.self s c.place.result c.len-number.result c.home-home.result c.wait-waiting.result) (sym w.self-is) (record {
          nodes = refl;
          chains = refl;
          taken = refl;
          latest = refl;
          pending = refl;
          count = w.push.ensures.count;
          room = w.push.ensures.room;
          more = stacks_more c.wait-waiting.new.self.ready w.push.new.self c.home-home.result c.len-number.result c.wait-waiting.result w.if-waiting-eq0.true w.push.ensures.pushed w.push.ensures.others;
          still = stacks_still c.wait-waiting.new.self.ready w.push.new.self c.home-home.result c.len-number.result w.push.ensures.pushed w.push.ensures.others;
          pushed = λ z. subst (λ l. Contains l c.len-number.result) (sym w.push.ensures.pushed) (contains_head c.len-number.result (stack_at c.wait-waiting.new.self.ready c.home-home.result));
        })
        | else-waiting-eq0 w ↦ subst (λ s. IsReadied c.wait-waiting.new.self s c.place.result c.len-number.result c.home-home.result c.wait-waiting.result) (sym w.self-is) (record {
          nodes = refl;
          chains = refl;
          taken = refl;
          latest = refl;
          pending = refl;
          count = refl;
          room = refl;
          more = λ b i m. inl m;
          still = λ b i m. m;
          pushed = λ z. absurd (w.if-waiting-eq0.false z);
        })
      ])

  abbrev node : Node
  node = record { home = c.home-home.result; update = Some c.args.update; waiting = c.wait-waiting.result; taken = false; waiters = c.empty.result }

  is_node : IsNodeFor geo t u node
  is_node = record {
    home = c.home-home.ensures.address ∙ ap (home_of geo) c.cell-own.ensures;
    on_volume = c.home-home.ensures.on_volume;
    update = refl;
    change = refl;
    waiting = c.wait-waiting.ensures.count ∙ ap (λ l. counted t c.home-home.result (lasts geo t (cell c.cell-own.result ∷ map cell l))) c.as_slice.ensures
        ∙ ap₂ (λ h x. counted t h (lasts geo t (x ∷ u.after))) (c.home-home.ensures.address ∙ ap (home_of geo) c.cell-own.ensures) c.cell-own.ensures;
    flag = refl;
    few = c.wait-waiting.type_inv;
    waiters = c.empty.ensures;
  }

  added : (t' : Table) → t'.nodes ≡ c.push_reserved.new.self → t'.chains ≡ c.if-waiting-eq0.self.chains → t'.ready ≡ c.if-waiting-eq0.self.ready → t'.latest ≡ c.if-waiting-eq0.self.latest → t'.taken ≡ c.if-waiting-eq0.self.taken
      → t'.pending ≡ c.if-waiting-eq0.self.pending + 1 → IsAdded c.wait-waiting.new.self t' (place_of geo (cell_of u.change)) (length t.nodes.items) node
  added t' nodes chains ready latest taken pending = record {
    nodes = ap (λ v. v.items) nodes ∙ c.push_reserved.ensures.items ∙ ap (λ v. v.items ++ node ∷ []) readied.nodes;
    capacity = ap vec_capacity nodes ∙ c.push_reserved.ensures.capacity ∙ ap vec_capacity readied.nodes;
    chains = chains ∙ readied.chains;
    taken = taken ∙ readied.taken;
    latest = ap (λ v. v.items) latest ∙ readied.latest;
    pending = pending ∙ ap (λ n. n + 1) readied.pending;
    count = ap count_of ready ∙ readied.count;
    room = ap room_of ready ∙ readied.room;
    more = λ b i m. readied.more b i (subst (λ v. Contains (stack_at v b) i) ready m);
    still = λ b i m. subst (λ v. Contains (stack_at v b) i) (sym ready) (readied.still b i m);
    pushed = λ z. subst (λ v. Contains (stack_at v node.home) (length t.nodes.items)) (sym ready) (readied.pushed z);
  }

  own_place : place_of geo (cell_of u.change) < place_count geo
  own_place = let low = c.place.ensures.in_table in let same = place in omega (arith, low, same)

pub returns-clause-held : goal.returns-clause-held
returns-clause-held c queue q loose holds =
    added_holds (geo c) (t c) queue q holds.written holds.takes (u c) c.requires.cells c.wait-waiting.new.self _ (node c) (behind c) (is_node c) (added c _ refl refl refl refl refl refl) (own_place c) few_waits (1 + length c.args.update.after.items) c.requires.room loose holds.cut
  where
    few_waits : length (new_entry queue (u c)).waits < 2 ^ 64
    few_waits =
        let same = ap length (waits_are (geo c) (t c) queue q holds.written holds.takes (u c) c.requires.cells) in
        let few = lasts_few (geo c) (t c) (cell_of (u c).change ∷ (u c).after) in
        let count = length-map c.args.update.after.items cell in
        let short = c.wait-waiting.ensures.few in
        omega (arith, same, few, count, short, ap length c.as_slice.ensures)

pub returns-clause-room : goal.returns-clause-room
returns-clause-room c updates cells has =
    let few = lasts_few (geo c) (t c) (cell_of (u c).change ∷ (u c).after) in
    let count = length-map c.args.update.after.items cell in
    room_left (t c) c.wait-waiting.new.self _ (length (t c).nodes.items) (place_of (geo c) (cell_of (u c).change)) (1 + length c.args.update.after.items) updates cells (lasts (geo c) (t c) (cell_of (u c).change ∷ (u c).after)) (node c) (behind c) (added c _ refl refl refl refl refl refl) (omega (arith, few, count)) has

pub returns-clause-stack : goal.returns-clause-stack
returns-clause-stack c =
    let home : c.home-home.result ≡ home_of (geo c) (cell_of (u c).change) = c.home-home.ensures.address ∙ ap (home_of (geo c)) c.cell-own.ensures in
    let before : (b : ℕ) → stack_at c.wait-waiting.new.self.ready b ≡ stack_at (t c).ready b = λ b. ap (λ r. stack_at r b) c.wait-waiting.ensures.behind.ready in
    subst (λ h. (stack_at c.if-waiting-eq0.self.ready h ≡ stack_at (t c).ready h) ⊎ (stack_at c.if-waiting-eq0.self.ready h ≡ length (t c).nodes.items ∷ stack_at (t c).ready h)) home (elim c.if-waiting-eq0.branch [
      | then-waiting-eq0 w ↦ inr (ap (λ (x : Table). stack_at x.ready c.home-home.result) w.self-is ∙ w.push.ensures.pushed ∙ ap₂ (λ i l. i ∷ l) (number c) (before c.home-home.result))
      | else-waiting-eq0 w ↦ inl (ap (λ (x : Table). stack_at x.ready c.home-home.result) w.self-is ∙ before c.home-home.result)
    ])
