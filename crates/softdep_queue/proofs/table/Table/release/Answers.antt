use Rattle.std.proofs.Common.{◌≡◌, ◌-◌, List, [], ◌∷◌, ◌++◌, refl, sym, ap, ℕ, ◌∙◌, subst, Contains, length, length-append, arith, append-nil, false}
use Rattle.std.proofs.lemmas.List.{append_assoc, length-map, length-reverse}
use Rattle.model.specs.Layout.{Geometry as Numbers}
use Rattle.ordering.specs.Cuts.{Pending, cell_of}
use Rattle.queue_model.specs.Blocks.{home_of}
use Rattle.queue_model.specs.Entries.{Entry, Queue}
use Rattle.softdep_queue.specs.declared.table.Node.{Node}
use Rattle.softdep_queue.specs.Ties.{Takes, Ties, node_at}
use Rattle.softdep_queue.specs.Lowering.{AreWaiting, released}
use Rattle.softdep_queue.specs.Retiring.{due_partly}
use Rattle.softdep_queue.proofs.Steps.{number_low, read}
use Rattle.softdep_queue.proofs.Taken.{ids}
use Rattle.softdep_queue.proofs.Released.{number_is, no_more, begins, ends, next_listed, next_waits, next_ties, next_of}
use Rattle.softdep_queue.proofs.table.Table.release.Goals as goal

pub loop-left-init : goal.loop-left-init
loop-left-init c = record {
  held = c.requires;
  taken = refl;
  ties = λ geo queue q ws takes. (
    [],
    ws,
    refl,
    (let l = ap length takes.taken in let r = length-reverse (ids ws) in let m = length-map ws (λ (e : Entry). e.id) in let n = c.len-left.ensures in omega (arith, l, r, m, n)),
    begins geo c.args.self.now queue q ws takes,
  );
}

-- ---- the next one

module _ (c : goal.After-index-arg-in-loop-left-1) where
  module _ (geo : Numbers) (queue : Queue) (q : List Pending) (ws : List Entry) (takes : Takes geo c.args.self.now queue q ws) where
    abbrev pub now : (done : List Entry) × (rest : List Entry) × (ws ≡ done ++ rest) × (length rest ≡ c.loop-left.left) × Ties geo c.loop-left.self queue q (due_partly (home_of geo) queue ws done)
    now = c.loop-left.invariant.ties geo queue q ws takes

    abbrev pub next : (e : Entry) × (others : List Entry) × (ws ≡ now.0 ++ e ∷ others) × (length others ≡ c.loop-left.left - 1)
    next = next_of ws now.0 now.1 c.loop-left.left now.2 now.3 c.loop-left-test.true

    pub number : next.0.id ≡ c.index-number.result.now
    number = number_is c.loop-left.self ws now.0 next.1 next.0 (c.loop-left.left - 1) c.index-number.result.now (ap (λ v. v.items) c.loop-left.invariant.taken ∙ takes.taken) next.2 next.3 c.index-number.ensures

pub index-number-requires : goal.index-number-requires
index-number-requires c =
    let h = c.requires.1 in
    let before = c.loop-left.invariant.ties c.requires.0 h.queue h.q h.ws h.takes in
    let l = ap (λ v. length v.items) c.loop-left.invariant.taken ∙ ap length h.takes.taken ∙ length-reverse (ids h.ws) ∙ length-map h.ws (λ (e : Entry). e.id) in
    let all = ap length before.2 ∙ length-append before.0 before.1 in
    let count = before.3 in
    let below = c.loop-left-test.true in
    omega (arith, l, all, count, below)

pub index-requires : goal.index-requires
index-requires c =
    let geo = c.requires.0 in
    let h = c.requires.1 in
    let at = next c geo h.queue h.q h.ws h.takes in
    let done = (now c geo h.queue h.q h.ws h.takes).0 in
    let ties = (now c geo h.queue h.q h.ws h.takes).4 in
    let low = number_low geo c.loop-left.self h.queue h.q (due_partly (home_of geo) h.queue h.ws done) (home_of geo (cell_of at.0.change)) at.0 c.index-number.result.now ties
    (next_listed geo c.loop-left.self h.queue h.q h.ws done at.1 at.0 at.2 h.takes.each ties) (number c geo h.queue h.q h.ws h.takes) in
    omega (arith, low)

-- the block of the next one
module _ (c : goal.After-lower-arg-1) where
  block : (geo : Numbers) (queue : Queue) (q : List Pending) (due : ℕ → Entry → ℕ) (e : Entry) → Ties geo c.loop-left.self queue q due → Contains (queue.lists (home_of geo (cell_of e.change))) e → e.id ≡ c.index-number.result.now
      → c.index.result.now.home ≡ home_of geo (cell_of e.change)
  block geo queue q due e ties listed id =
      let low = number_low geo c.loop-left.self queue q due (home_of geo (cell_of e.change)) e c.index-number.result.now ties listed id in
      ap (λ (x : Node). x.home) (read c.loop-left.self.nodes.items c.index-number.result.now c.index.result.now low c.index.ensures) ∙ ap (λ i. (node_at c.loop-left.self.nodes.items i).home) (sym id)
      ∙ (ties.node (home_of geo (cell_of e.change)) e listed).home

pub lower-requires : goal.lower-requires
lower-requires c =
    let geo = c.requires.0 in
    let h = c.requires.1 in
    let before = c.loop-left.invariant.ties geo h.queue h.q h.ws h.takes in
    let at = next_of h.ws before.0 before.1 c.loop-left.left before.2 before.3 c.loop-left-test.true in
    let id = number_is c.loop-left.self h.ws before.0 at.1 at.0 (c.loop-left.left - 1) c.index-number.result.now (ap (λ v. v.items) c.loop-left.invariant.taken ∙ h.takes.taken) at.2 at.3 c.index-number.ensures in
    let due = due_partly (home_of geo) h.queue h.ws before.0 in
    let listed = next_listed geo c.loop-left.self h.queue h.q h.ws before.0 at.1 at.0 at.2 h.takes.each before.4 in
    record {
      geo = geo;
      queue = h.queue;
      q = h.q;
      due = due;
      block = home_of geo (cell_of at.0.change);
      entry = at.0;
      ties = before.4;
      listed = listed;
      id = id;
      waiting = subst (λ k. AreWaiting h.queue due k false c.index-number.result.now) (sym (block c geo h.queue h.q due at.0 before.4 listed id))
          (subst (AreWaiting h.queue due (home_of geo (cell_of at.0.change)) false) id (next_waits geo c.loop-left.self h.queue h.q h.ws before.0 at.1 at.0 at.2 h.takes.each before.4));
    }

pub loop-left-preserved : goal.loop-left-preserved
loop-left-preserved c = record {
  held = c.loop-left.invariant.held;
  taken = c.lower.ensures.taken ∙ c.loop-left.invariant.taken;
  ties = λ geo queue q ws takes.
      let before = c.loop-left.invariant.ties geo queue q ws takes in
      let at = next_of ws before.0 before.1 c.loop-left.left before.2 before.3 c.loop-left-test.true in
      let id = number_is c.loop-left.self ws before.0 at.1 at.0 (c.loop-left.left - 1) c.index-number.result.now (ap (λ v. v.items) c.loop-left.invariant.taken ∙ takes.taken) at.2 at.3 c.index-number.ensures in
      let due = due_partly (home_of geo) queue ws before.0 in
      let listed = next_listed geo c.loop-left.self queue q ws before.0 at.1 at.0 at.2 takes.each before.4 in
      let waits = next_waits geo c.loop-left.self queue q ws before.0 at.1 at.0 at.2 takes.each before.4 in
      let low = number_low geo c.loop-left.self queue q due (home_of geo (cell_of at.0.change)) at.0 c.index-number.result.now before.4 listed id in
      let block = ap (λ (x : Node). x.home) (read c.loop-left.self.nodes.items c.index-number.result.now c.index.result.now low c.index.ensures) ∙ ap (λ i. (node_at c.loop-left.self.nodes.items i).home) (sym id)
      ∙ (before.4.node (home_of geo (cell_of at.0.change)) at.0 listed).home in
      let lowered = c.lower.ensures.lowered geo queue q due (home_of geo (cell_of at.0.change)) at.0 before.4 listed id
      (subst (λ k. AreWaiting queue due k false c.index-number.result.now) (sym block) (subst (AreWaiting queue due (home_of geo (cell_of at.0.change)) false) id waits)) in (
        before.0 ++ at.0 ∷ [],
        at.1,
        at.2 ∙ sym (append_assoc before.0 (at.0 ∷ []) at.1),
        at.3,
        next_ties geo c.loop-left.self queue q ws before.0 at.1 at.0 at.2 takes.each before.4 c.lower.new.self
            (subst (λ i. Ties geo c.lower.new.self queue q (released (home_of geo (cell_of at.0.change)) false i due)) (sym id)
            (subst (λ k. Ties geo c.lower.new.self queue q (released k false c.index-number.result.now due)) block lowered)),
      );
}

pub returns : goal.returns
returns c geo queue q ws takes =
    let now = c.loop-left.invariant.ties geo queue q ws takes in
    let none = no_more now.1 c.loop-left.left now.3 c.loop-left-test.false in
    record {
      ties = ends geo c.loop-left.self queue q ws now.0 (now.2 ∙ ap (λ l. now.0 ++ l) none ∙ append-nil now.0) now.4;
      taken = ap (λ v. v.items) c.loop-left.invariant.taken ∙ takes.taken;
      each = takes.each;
    }
