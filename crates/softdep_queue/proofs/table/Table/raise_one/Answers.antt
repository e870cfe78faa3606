use Rattle.std.proofs.Common.{◌≡◌, ◌+◌, inl, refl, sym, ap, ap₂, ◌∙◌, arith, slice_set, eq-eqb, ne_eqb}
use Rattle.softdep_queue.specs.declared.table.Node.{Node}
use Rattle.softdep_queue.specs.Ties.{node_at}
use Rattle.softdep_queue.proofs.Steps.{read}
use Rattle.softdep_queue.proofs.Raising.{shown_low, shown_node, left, raised}
use Rattle.softdep_queue.proofs.table.Table.raise_one.Goals as goal

pub returns-then-index-address-clause-raised : goal.returns-then-index-address-clause-raised
returns-then-index-address-clause-raised c geo queue q due b f shows listed id lacks =
    let t = c.args.self.now in
    let low = shown_low geo t queue q due b f c.args.waiter shows listed id in
    let node = shown_node geo t queue q due b f c.args.waiter shows listed id in
    let here = read t.nodes.items c.args.waiter c.index.result.now low c.index.ensures in
    let written = read t.nodes.items c.args.waiter c.index_mut.result.now low c.index_mut.ensures.value in
    let home : c.index.result.now.home ≡ b = ap (λ (y : Node). y.home) here ∙ ap (λ i. (node_at t.nodes.items i).home) (sym id) ∙ node.home in
    let waiting : c.index_mut.result.now.waiting ≡ due b f = ap (λ (y : Node). y.waiting) written ∙ ap (λ i. (node_at t.nodes.items i).waiting) (sym id) ∙ node.waiting in
    raised geo t queue q due b f c.args.waiter shows listed id c.args.address _ (eq-eqb b c.args.address (sym home ∙ c.if-index-address.true)) (record {
      nodes = ap₂ (λ (y : Node) n. slice_set t.nodes.items c.args.waiter (record { home = y.home; update = y.update; waiting = n + 1; taken = y.taken; waiters = y.waiters })) written waiting;
      chains = refl;
      taken = refl;
      latest = refl;
      pending = refl;
      count = refl;
      room = refl;
      more = λ k i m. inl m;
      still = λ k i m. m;
      pushed = λ z. absurd (omega (arith, z));
    })

pub returns-else-index-address-clause-raised : goal.returns-else-index-address-clause-raised
returns-else-index-address-clause-raised c geo queue q due b f shows listed id lacks =
    let t = c.args.self.now in
    let low = shown_low geo t queue q due b f c.args.waiter shows listed id in
    let node = shown_node geo t queue q due b f c.args.waiter shows listed id in
    let here = read t.nodes.items c.args.waiter c.index.result.now low c.index.ensures in
    let home : c.index.result.now.home ≡ b = ap (λ (y : Node). y.home) here ∙ ap (λ i. (node_at t.nodes.items i).home) (sym id) ∙ node.home in
    left geo t queue q due b f c.args.waiter shows listed id c.args.address (ne_eqb b c.args.address (λ e. c.if-index-address.false (home ∙ e)))
