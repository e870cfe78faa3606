use Rattle.std.proofs.Common.{◌≡◌, [], ◌∷◌, ◌++◌, refl, sym, ap, ◌∙◌, subst, arith, append-nil}
use Rattle.std.proofs.lemmas.List.{append_assoc}
use Rattle.lists.specs.Chains.{numbers, IsChain, Links}
use Rattle.queue_model.specs.Blocks.{home_of}
use Rattle.ordering.specs.Cuts.{cell_of}
use Rattle.queue_model.specs.Entries.{Entry}
use Rattle.softdep_queue.specs.declared.table.Node.{Node}
use Rattle.softdep_queue.specs.Ties.{node_at, waiters_of}
use Rattle.softdep_queue.specs.Lowering.{less, released, AreWaiting}
use Rattle.softdep_queue.proofs.Steps.{read, number_low, node_is, ties_due, less_all, less_more, less_nothing, next_entry, next_waits, all_lowered}
use Rattle.softdep_queue.proofs.table.Table.lower.Goals as goal

pub index-requires : goal.index-requires
index-requires c =
    let low = number_low c.requires.geo c.args.self.now c.requires.queue c.requires.q c.requires.due c.requires.block c.requires.entry c.args.number c.requires.ties c.requires.listed c.requires.id in
    omega (arith, low)

pub loop-link-init : goal.loop-link-init
loop-link-init c =
    let t = c.args.self.now in
    let low = number_low c.requires.geo t c.requires.queue c.requires.q c.requires.due c.requires.block c.requires.entry c.args.number c.requires.ties c.requires.listed c.requires.id in
    let node = node_is c.requires.geo t c.requires.queue c.requires.q c.requires.due c.requires.block c.requires.entry c.args.number c.requires.ties c.requires.listed c.requires.id in
    let first = read t.nodes.items c.args.number c.index.result.now low c.index.ensures in
    record {
      done = [];
      left = ap (λ (x : Node). numbers t.chains x.waiters) (sym first);
      chain = subst (λ (x : Node). IsChain t.chains x.waiters) (sym first) (subst (λ i. IsChain t.chains (node_at t.nodes.items i).waiters) c.requires.id node.chain);
      chains = refl;
      taken = refl;
      room = λ updates cells has. has;
      changes = λ i. refl;
      ties = λ geo queue q due b e ties listed id waiting. ties_due geo t queue q due (less_all c.args.address c.args.here [] due) (λ k g m. less_nothing c.args.address c.args.here due k g) ties;
    }

-- ---- the next that waits

module _ (c : goal.After-lower_one-arg-1) where
  all : (e : Entry) → e.id ≡ c.args.number → waiters_of c.args.self.now e.id ≡ c.loop-link.invariant.done ++ c.in-Some.link.number ∷ numbers c.loop-link.self.chains c.in-Some.link.rest
  all e id = ap (waiters_of c.args.self.now) id ∙ c.loop-link.invariant.left ∙ ap (λ l. c.loop-link.invariant.done ++ l) c.in-Some.ensures.numbers

pub lower_one-requires : goal.lower_one-requires
lower_one-requires c =
    let i = c.loop-link.invariant in
    let r = c.requires in
    let enough = subst (AreWaiting r.queue r.due c.args.address c.args.here) (sym r.id) r.waiting in
    let g = next_entry r.geo c.args.self.now r.queue r.q r.due c.args.address c.args.here r.block r.entry r.ties r.listed enough i.done c.in-Some.link.number (numbers c.loop-link.self.chains c.in-Some.link.rest) (all c r.entry r.id) in
    record {
      geo = r.geo;
      queue = r.queue;
      q = r.q;
      due = less_all c.args.address c.args.here i.done r.due;
      block = home_of r.geo (cell_of g.0.change);
      entry = g.0;
      ties = i.ties r.geo r.queue r.q r.due r.block r.entry r.ties r.listed r.id r.waiting;
      listed = g.1;
      id = g.2;
      waits = next_waits r.geo c.args.self.now r.queue r.q r.due c.args.address c.args.here r.block r.entry r.ties r.listed enough i.done c.in-Some.link.number (numbers c.loop-link.self.chains c.in-Some.link.rest) (all c r.entry r.id)
          (home_of r.geo (cell_of g.0.change)) g.0 g.1 g.2;
    }

pub loop-link-preserved : goal.loop-link-preserved
loop-link-preserved c =
    let i = c.loop-link.invariant in
    record {
      done = i.done ++ c.in-Some.link.number ∷ [];
      left = i.left ∙ ap (λ l. i.done ++ l) c.in-Some.ensures.numbers ∙ sym (append_assoc i.done (c.in-Some.link.number ∷ []) (numbers c.loop-link.self.chains c.in-Some.link.rest))
          ∙ ap (λ (v : Links). (i.done ++ c.in-Some.link.number ∷ []) ++ numbers v c.in-Some.link.rest) (sym c.lower_one.ensures.chains);
      chain = subst (λ (v : Links). IsChain v c.in-Some.link.rest) (sym c.lower_one.ensures.chains) c.in-Some.ensures.rest.0;
      chains = c.lower_one.ensures.chains ∙ i.chains;
      taken = c.lower_one.ensures.taken ∙ i.taken;
      room = λ updates cells has. c.lower_one.ensures.room updates cells (i.room updates cells has);
      changes = λ k. (c.lower_one.ensures.nodes k).1 ∙ i.changes k;
      ties = λ geo queue q due b e ties listed id waiting.
          let enough = subst (AreWaiting queue due c.args.address c.args.here) (sym id) waiting in
          let rest = numbers c.loop-link.self.chains c.in-Some.link.rest in
          let whole = ap (waiters_of c.args.self.now) id ∙ i.left ∙ ap (λ l. i.done ++ l) c.in-Some.ensures.numbers in
          let g = next_entry geo c.args.self.now queue q due c.args.address c.args.here b e ties listed enough i.done c.in-Some.link.number rest whole in
          let before = i.ties geo queue q due b e ties listed id waiting in
          ties_due geo c.lower_one.new.self queue q (less c.args.address c.args.here c.in-Some.link.number (less_all c.args.address c.args.here i.done due)) (less_all c.args.address c.args.here (i.done ++ c.in-Some.link.number ∷ []) due)
          (λ k x m. less_more c.args.address c.args.here i.done c.in-Some.link.number due k x)
          (c.lower_one.ensures.lowered geo queue q (less_all c.args.address c.args.here i.done due) (home_of geo (cell_of g.0.change)) g.0 before g.1 g.2
          (next_waits geo c.args.self.now queue q due c.args.address c.args.here b e ties listed enough i.done c.in-Some.link.number rest whole (home_of geo (cell_of g.0.change)) g.0 g.1 g.2));
    }

pub returns-clause-lowered : goal.returns-clause-lowered
returns-clause-lowered c geo queue q due b e ties listed id waiting =
    let i = c.loop-link.invariant in
    let whole : waiters_of c.args.self.now e.id ≡ i.done = ap (waiters_of c.args.self.now) id ∙ i.left ∙ ap (λ l. i.done ++ l) c.in_default.ensures.numbers ∙ append-nil i.done in
    ties_due geo c.loop-link.self queue q (less_all c.args.address c.args.here i.done due) (released c.args.address c.args.here c.args.number due)
    (λ k g m. all_lowered geo c.args.self.now queue q due c.args.address c.args.here b e ties listed i.done whole k g m ∙ ap (λ n. released c.args.address c.args.here n due k g) id)
    (i.ties geo queue q due b e ties listed id waiting)
