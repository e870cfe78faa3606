use Rattle.std.proofs.Common.{◌≡◌, ◌-◌, ◌<◌, inl, inr, refl, sym, ap, ap₂, ◌∙◌, subst, IsTrue, IsFalse, Contains, length, arith, slice_set}
use Rattle.std.proofs.lemmas.Bool.{cases_eq}
use Rattle.queue_model.proofs.Lists.{contains_head, contains_tail, contains_cases}
use Rattle.lists.specs.Stacks.{stack_at}
use Rattle.softdep_queue.specs.declared.table.Node.{Node}
use Rattle.softdep_queue.specs.Ties.{node_at}
use Rattle.softdep_queue.specs.Lowering.{is_chosen}
use Rattle.softdep_queue.proofs.Steps.{read, number_low, node_is, not_stacked, kept, lowered, is_not_chosen, is_chosen_one, home_low}
use Rattle.softdep_queue.proofs.table.Table.lower_one.Goals as goal

pub returns-then-home-address-clause-lowered : goal.returns-then-home-address-clause-lowered
returns-then-home-address-clause-lowered c geo queue q due b f ties listed id waits =
    let x = read c.args.self.now.nodes.items c.args.waiter c.index.result.now (number_low geo c.args.self.now queue q due b f c.args.waiter ties listed id) c.index.ensures in
    let home = ap (λ (y : Node). y.home) x ∙ ap (λ i. (node_at c.args.self.now.nodes.items i).home) (sym id) ∙ (node_is geo c.args.self.now queue q due b f c.args.waiter ties listed id).home in
    kept geo c.args.self.now queue q due b f c.args.waiter ties listed id c.args.address c.args.here
    (subst (λ k. IsFalse (is_chosen c.args.address c.args.here k)) home (is_not_chosen c.args.address c.index.result.now.home c.args.here c.if-home-address.true))

-- ---- the entry that the caller knows of

module _ (c : goal.After-push-arg-1) where
  low : c.args.waiter < length c.args.self.now.nodes.items
  low = number_low c.requires.geo c.args.self.now c.requires.queue c.requires.q c.requires.due c.requires.block c.requires.entry c.args.waiter c.requires.ties c.requires.listed c.requires.id

  home : c.index.result.now.home ≡ c.requires.block
  home = ap (λ (y : Node). y.home) (read c.args.self.now.nodes.items c.args.waiter c.index.result.now low c.index.ensures)
      ∙ ap (λ i. (node_at c.args.self.now.nodes.items i).home) (sym c.requires.id)
      ∙ (node_is c.requires.geo c.args.self.now c.requires.queue c.requires.q c.requires.due c.requires.block c.requires.entry c.args.waiter c.requires.ties c.requires.listed c.requires.id).home

  chosen : IsTrue (is_chosen c.args.address c.args.here c.requires.block)
  chosen = subst (λ k. IsTrue (is_chosen c.args.address c.args.here k)) home (is_chosen_one c.args.address c.index.result.now.home c.args.here c.if-home-address.false)

pub push-requires-clause-block : goal.push-requires-clause-block
push-requires-clause-block c =
    let l = home_low c.requires.geo c.args.self.now c.requires.queue c.requires.q c.requires.due c.requires.block c.requires.entry c.requires.ties c.requires.listed in
    let h = home c in
    omega (arith, l, h)

pub push-requires-clause-new : goal.push-requires-clause-new
push-requires-clause-new c =
    not_stacked c.requires.geo c.args.self.now c.requires.queue c.requires.q c.requires.due c.requires.block c.requires.entry c.args.waiter c.requires.ties c.requires.listed c.requires.id (c.requires.waits (chosen c))

-- ---- each entry

pub returns-then-waiting-eq0-clause-lowered : goal.returns-then-waiting-eq0-clause-lowered
returns-then-waiting-eq0-clause-lowered c geo queue q due b f ties listed id waits =
    let t = c.args.self.now in
    let low = number_low geo t queue q due b f c.args.waiter ties listed id in
    let node = node_is geo t queue q due b f c.args.waiter ties listed id in
    let here = read t.nodes.items c.args.waiter c.index.result.now low c.index.ensures in
    let counted = read t.nodes.items c.args.waiter c.index-2.result.now low c.index-2.ensures in
    let written = read t.nodes.items c.args.waiter c.index_mut.result.now low c.index_mut.ensures.value in
    let home : c.index.result.now.home ≡ b = ap (λ (y : Node). y.home) here ∙ ap (λ i. (node_at t.nodes.items i).home) (sym id) ∙ node.home in
    let waiting : c.index-2.result.now.waiting ≡ due b f = ap (λ (y : Node). y.waiting) counted ∙ ap (λ i. (node_at t.nodes.items i).waiting) (sym id) ∙ node.waiting in
    let chosen : IsTrue (is_chosen c.args.address c.args.here b) = subst (λ k. IsTrue (is_chosen c.args.address c.args.here k)) home (is_chosen_one c.args.address c.index.result.now.home c.args.here c.if-home-address.false) in
    let none : due b f - 1 ≡ 0 = ap (λ n. n - 1) (sym waiting) ∙ c.if-waiting-eq0.true in
    lowered geo t queue q due b f c.args.waiter ties listed id c.args.address c.args.here _ chosen (waits chosen) (record {
      nodes = ap₂ (λ (y : Node) n. slice_set t.nodes.items c.args.waiter (record { home = y.home; update = y.update; waiting = n - 1; taken = y.taken; waiters = y.waiters })) written waiting;
      chains = refl;
      taken = refl;
      latest = refl;
      pending = refl;
      count = c.push.ensures.count;
      room = c.push.ensures.room;
      more = λ k i m. elim (cases_eq k c.index.result.now.home) [
        | inl e ↦ elim (contains_cases c.args.waiter i (stack_at t.ready c.index.result.now.home) (subst (λ l. Contains l i) (ap (stack_at c.push.new.self) e ∙ c.push.ensures.pushed) m)) [
          | inl is ↦ inr (none, e ∙ home, sym is)
          | inr old ↦ inl (subst (λ j. Contains (stack_at t.ready j) i) (sym e) old)
        ]
        | inr d ↦ inl (subst (λ l. Contains l i) (c.push.ensures.others k d) m)
      ];
      still = λ k i m. elim (cases_eq k c.index.result.now.home) [
        | inl e ↦ subst (λ l. Contains l i) (sym (ap (stack_at c.push.new.self) e ∙ c.push.ensures.pushed)) (contains_tail c.args.waiter i (stack_at t.ready c.index.result.now.home) (subst (λ j. Contains (stack_at t.ready j) i) e m))
        | inr d ↦ subst (λ l. Contains l i) (sym (c.push.ensures.others k d)) m
      ];
      pushed = λ z. subst (λ l. Contains l c.args.waiter) (sym (ap (stack_at c.push.new.self) (sym home) ∙ c.push.ensures.pushed)) (contains_head c.args.waiter (stack_at t.ready c.index.result.now.home));
    })

pub returns-else-waiting-eq0-clause-lowered : goal.returns-else-waiting-eq0-clause-lowered
returns-else-waiting-eq0-clause-lowered c geo queue q due b f ties listed id waits =
    let t = c.args.self.now in
    let low = number_low geo t queue q due b f c.args.waiter ties listed id in
    let node = node_is geo t queue q due b f c.args.waiter ties listed id in
    let here = read t.nodes.items c.args.waiter c.index.result.now low c.index.ensures in
    let counted = read t.nodes.items c.args.waiter c.index-2.result.now low c.index-2.ensures in
    let written = read t.nodes.items c.args.waiter c.index_mut.result.now low c.index_mut.ensures.value in
    let home : c.index.result.now.home ≡ b = ap (λ (y : Node). y.home) here ∙ ap (λ i. (node_at t.nodes.items i).home) (sym id) ∙ node.home in
    let waiting : c.index-2.result.now.waiting ≡ due b f = ap (λ (y : Node). y.waiting) counted ∙ ap (λ i. (node_at t.nodes.items i).waiting) (sym id) ∙ node.waiting in
    let chosen : IsTrue (is_chosen c.args.address c.args.here b) = subst (λ k. IsTrue (is_chosen c.args.address c.args.here k)) home (is_chosen_one c.args.address c.index.result.now.home c.args.here c.if-home-address.false) in
    let some : due b f - 1 ≡ 0 → ⊥ = λ z. c.if-waiting-eq0.false (ap (λ n. n - 1) waiting ∙ z) in
    lowered geo t queue q due b f c.args.waiter ties listed id c.args.address c.args.here _ chosen (waits chosen) (record {
      nodes = ap₂ (λ (y : Node) n. slice_set t.nodes.items c.args.waiter (record { home = y.home; update = y.update; waiting = n - 1; taken = y.taken; waiters = y.waiters })) written waiting;
      chains = refl;
      taken = refl;
      latest = refl;
      pending = refl;
      count = refl;
      room = refl;
      more = λ k i m. inl m;
      still = λ k i m. m;
      pushed = λ z. absurd (some z);
    })
