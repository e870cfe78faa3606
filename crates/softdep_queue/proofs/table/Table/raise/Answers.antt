use Rattle.std.proofs.Common.{◌≡◌, [], ◌∷◌, ◌++◌, refl, sym, ap, ◌∙◌, subst, arith, append-nil}
use Rattle.std.proofs.lemmas.List.{append_assoc}
use Rattle.lists.specs.Chains.{numbers, IsChain, Links}
use Rattle.queue_model.specs.Blocks.{home_of}
use Rattle.ordering.specs.Cuts.{cell_of}
use Rattle.queue_model.specs.Entries.{Entry}
use Rattle.softdep_queue.specs.declared.table.Node.{Node}
use Rattle.softdep_queue.specs.Ties.{node_at, waiters_of}
use Rattle.softdep_queue.specs.Returning.{more, held, AreFree}
use Rattle.softdep_queue.proofs.Steps.{read}
use Rattle.softdep_queue.proofs.Raising.{shown_low, shown_node, shows_due, more_all, more_next, more_nothing, next_shown, next_lacks, all_raised}
use Rattle.softdep_queue.proofs.table.Table.raise.Goals as goal

pub index-requires : goal.index-requires
index-requires c =
    let low = shown_low c.requires.geo c.args.self.now c.requires.queue c.requires.q c.requires.due c.requires.block c.requires.entry c.args.number c.requires.shows c.requires.listed c.requires.id in
    omega (arith, low)

pub loop-link-init : goal.loop-link-init
loop-link-init c =
    let t = c.args.self.now in
    let low = shown_low c.requires.geo t c.requires.queue c.requires.q c.requires.due c.requires.block c.requires.entry c.args.number c.requires.shows c.requires.listed c.requires.id in
    let node = shown_node c.requires.geo t c.requires.queue c.requires.q c.requires.due c.requires.block c.requires.entry c.args.number c.requires.shows c.requires.listed c.requires.id in
    let first = read t.nodes.items c.args.number c.index.result.now low c.index.ensures in
    record {
      done = [];
      left = ap (λ (x : Node). numbers t.chains x.waiters) (sym first);
      chain = subst (λ (x : Node). IsChain t.chains x.waiters) (sym first) (subst (λ i. IsChain t.chains (node_at t.nodes.items i).waiters) c.requires.id node.chain);
      chains = refl;
      ready = refl;
      taken = refl;
      flags = λ i. refl;
      shows = λ geo queue q due b e shows listed id free. shows_due geo t queue q due (more_all c.args.address [] due) (λ k g m. more_nothing c.args.address due k g) shows;
    }

-- ---- the next that waits

module _ (c : goal.After-raise_one-arg-1) where
  all : (e : Entry) → e.id ≡ c.args.number → waiters_of c.args.self.now e.id ≡ c.loop-link.invariant.done ++ c.in-Some.link.number ∷ numbers c.loop-link.self.chains c.in-Some.link.rest
  all e id = ap (waiters_of c.args.self.now) id ∙ c.loop-link.invariant.left ∙ ap (λ l. c.loop-link.invariant.done ++ l) c.in-Some.ensures.numbers

pub raise_one-requires : goal.raise_one-requires
raise_one-requires c =
    let i = c.loop-link.invariant in
    let r = c.requires in
    let free = subst (AreFree r.queue r.due c.args.address) (sym r.id) r.free in
    let rest = numbers c.loop-link.self.chains c.in-Some.link.rest in
    let g = next_shown r.geo c.args.self.now r.queue r.q r.due c.args.address r.block r.entry r.shows r.listed free i.done c.in-Some.link.number rest (all c r.entry r.id) in
    record {
      geo = r.geo;
      queue = r.queue;
      q = r.q;
      due = more_all c.args.address i.done r.due;
      block = home_of r.geo (cell_of g.0.change);
      entry = g.0;
      shows = i.shows r.geo r.queue r.q r.due r.block r.entry r.shows r.listed r.id r.free;
      listed = g.1;
      id = g.2;
      lacks = next_lacks r.geo c.args.self.now r.queue r.q r.due c.args.address r.block r.entry r.shows r.listed free i.done c.in-Some.link.number rest (all c r.entry r.id)
          (home_of r.geo (cell_of g.0.change)) g.0 g.1 g.2;
    }

pub loop-link-preserved : goal.loop-link-preserved
loop-link-preserved c =
    let i = c.loop-link.invariant in
    record {
      done = i.done ++ c.in-Some.link.number ∷ [];
      left = i.left ∙ ap (λ l. i.done ++ l) c.in-Some.ensures.numbers ∙ sym (append_assoc i.done (c.in-Some.link.number ∷ []) (numbers c.loop-link.self.chains c.in-Some.link.rest))
          ∙ ap (λ (v : Links). (i.done ++ c.in-Some.link.number ∷ []) ++ numbers v c.in-Some.link.rest) (sym c.raise_one.ensures.chains);
      chain = subst (λ (v : Links). IsChain v c.in-Some.link.rest) (sym c.raise_one.ensures.chains) c.in-Some.ensures.rest.0;
      chains = c.raise_one.ensures.chains ∙ i.chains;
      ready = c.raise_one.ensures.ready ∙ i.ready;
      taken = c.raise_one.ensures.taken ∙ i.taken;
      flags = λ k. c.raise_one.ensures.flags k ∙ i.flags k;
      shows = λ geo queue q due b e shows listed id free.
          let now = subst (AreFree queue due c.args.address) (sym id) free in
          let rest = numbers c.loop-link.self.chains c.in-Some.link.rest in
          let whole = ap (waiters_of c.args.self.now) id ∙ i.left ∙ ap (λ l. i.done ++ l) c.in-Some.ensures.numbers in
          let g = next_shown geo c.args.self.now queue q due c.args.address b e shows listed now i.done c.in-Some.link.number rest whole in
          let before = i.shows geo queue q due b e shows listed id free in
          shows_due geo c.raise_one.new.self queue q (more c.args.address c.in-Some.link.number (more_all c.args.address i.done due)) (more_all c.args.address (i.done ++ c.in-Some.link.number ∷ []) due)
          (λ k x m. more_next c.args.address i.done c.in-Some.link.number due k x)
          (c.raise_one.ensures.raised geo queue q (more_all c.args.address i.done due) (home_of geo (cell_of g.0.change)) g.0 before g.1 g.2
          (next_lacks geo c.args.self.now queue q due c.args.address b e shows listed now i.done c.in-Some.link.number rest whole (home_of geo (cell_of g.0.change)) g.0 g.1 g.2));
    }

pub returns-clause-raised : goal.returns-clause-raised
returns-clause-raised c geo queue q due b e shows listed id free =
    let i = c.loop-link.invariant in
    let whole : waiters_of c.args.self.now e.id ≡ i.done = ap (waiters_of c.args.self.now) id ∙ i.left ∙ ap (λ l. i.done ++ l) c.in_default.ensures.numbers ∙ append-nil i.done in
    shows_due geo c.loop-link.self queue q (more_all c.args.address i.done due) (held c.args.address c.args.number due)
    (λ k g m. all_raised geo c.args.self.now queue q due c.args.address b e shows listed i.done whole k g m ∙ ap (λ n. held c.args.address n due k g) id)
    (i.shows geo queue q due b e shows listed id free)
