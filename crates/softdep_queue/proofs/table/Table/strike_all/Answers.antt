use Rattle.std.proofs.Common.{◌-◌, [], ◌∷◌, ◌++◌, refl, sym, ap, ◌∙◌, subst, length, arith, length-append, append-nil}
use Rattle.std.proofs.lemmas.List.{append_assoc, length-map, length-reverse}
use Rattle.ordering.specs.Cuts.{cell_of}
use Rattle.queue_model.specs.Blocks.{home_of}
use Rattle.queue_model.specs.Entries.{Entry}
use Rattle.queue_model.proofs.Standing.{id_low}
use Rattle.softdep_queue.specs.declared.table.Node.{Node}
use Rattle.softdep_queue.specs.Ties.{Shows, WereTaken, node_at}
use Rattle.softdep_queue.specs.Retiring.{IsStruck, AreStruck}
use Rattle.softdep_queue.proofs.Taken.{ids}
use Rattle.softdep_queue.proofs.Released.{number_is, no_more, next_of, listed_at, not_done}
use Rattle.softdep_queue.proofs.Struck.{none_struck, one_struck}
use Rattle.softdep_queue.proofs.table.Table.strike_all.Goals as goal

pub index-number-requires : goal.index-number-requires
index-number-requires c =
    let h = c.requires in
    let before = c.loop-left.invariant.struck h.queue h.q h.ws h.released in
    let l = ap (λ v. length v.items) c.loop-left.invariant.taken ∙ ap length h.released.taken ∙ length-reverse (ids h.ws) ∙ length-map h.ws (λ (e : Entry). e.id) in
    let all = ap length before.2 ∙ length-append before.0 before.1 in
    let count = before.3 in
    let below = c.loop-left-test.true in
    omega (arith, l, all, count, below)

pub strike-requires-clause-places : goal.strike-requires-clause-places
strike-requires-clause-places c = let h = c.requires in (c.loop-left.invariant.struck h.queue h.q h.ws h.released).4.places ∙ h.released.ties.places

pub strike-requires-clause-shows : goal.strike-requires-clause-shows
strike-requires-clause-shows c =
    let h = c.requires in
    let geo = c.args.geometry.now in
    let before = c.loop-left.invariant.struck h.queue h.q h.ws h.released in
    let at = next_of h.ws before.0 before.1 c.loop-left.left before.2 before.3 c.loop-left-test.true in
    let id = number_is c.loop-left.self h.ws before.0 at.1 at.0 (c.loop-left.left - 1) c.index-number.result.now (ap (λ v. v.items) c.loop-left.invariant.taken ∙ h.released.taken) at.2 at.3 c.index-number.ensures in
    let each = subst (WereTaken (home_of geo) h.queue) at.2 h.released.each in
    let listed = listed_at (home_of geo) h.queue before.0 at.1 at.0 each in
    let node = h.released.ties.node (home_of geo (cell_of at.0.change)) at.0 listed in
    record {
      update = at.0.change;
      shows = subst (λ i. Shows (node_at c.loop-left.self.nodes.items i).update at.0.change) id (subst (λ (x : Node). Shows x.update at.0.change) (sym (before.4.nodes at.0.id (not_done (home_of geo) h.queue before.0 at.1 at.0 each))) node.change);
      cell = node.cell;
      fits = node.fits;
      low = (let l = id_low (home_of geo) h.queue h.q h.released.ties.represents (home_of geo (cell_of at.0.change)) at.0 listed in let n = h.released.ties.next in let m = before.4.count in omega (arith, l, n, m, id));
    }

pub loop-left-init : goal.loop-left-init
loop-left-init c = record {
  held = c.requires;
  taken = refl;
  struck = λ queue q ws released. (
    [],
    ws,
    refl,
    (let l = ap length released.taken in let r = length-reverse (ids ws) in let m = length-map ws (λ (e : Entry). e.id) in let n = c.len-left.ensures in omega (arith, l, r, m, n)),
    none_struck c.args.geometry.now c.args.self.now queue q _ released.ties,
  );
}

pub loop-left-preserved : goal.loop-left-preserved
loop-left-preserved c = record {
  held = c.loop-left.invariant.held;
  taken = c.strike.ensures.taken ∙ c.loop-left.invariant.taken;
  struck = λ queue q ws released.
      let geo = c.args.geometry.now in
      let before = c.loop-left.invariant.struck queue q ws released in
      let at = next_of ws before.0 before.1 c.loop-left.left before.2 before.3 c.loop-left-test.true in
      let id = number_is c.loop-left.self ws before.0 at.1 at.0 (c.loop-left.left - 1) c.index-number.result.now (ap (λ v. v.items) c.loop-left.invariant.taken ∙ released.taken) at.2 at.3 c.index-number.ensures in
      let each = subst (WereTaken (home_of geo) queue) at.2 released.each in
      let listed = listed_at (home_of geo) queue before.0 at.1 at.0 each in
      let fresh = not_done (home_of geo) queue before.0 at.1 at.0 each in
      let shows = subst (λ i. Shows (node_at c.loop-left.self.nodes.items i).update at.0.change) id (subst (λ (x : Node). Shows x.update at.0.change) (sym (before.4.nodes at.0.id fresh)) (released.ties.node (home_of geo (cell_of at.0.change)) at.0 listed).change) in
      let one = subst (λ i. IsStruck geo c.loop-left.self c.strike.new.self i (cell_of at.0.change)) (sym id) (c.strike.ensures.struck at.0.change shows) in (
        before.0 ++ at.0 ∷ [],
        at.1,
        at.2 ∙ sym (append_assoc before.0 (at.0 ∷ []) at.1),
        at.3,
        one_struck geo (c.cells_have_places_of_their_own.ensures geo c.blocks-2.ensures.geometry) c.args.self.now c.loop-left.self c.strike.new.self queue q _ released.ties (home_of geo (cell_of at.0.change)) at.0 listed before.0 before.4 fresh (let l = c.strike.ensures.in_table at.0.change shows in let p = released.ties.places in let b = before.4.places in omega (arith, l, p, b)) one,
      );
}

pub returns : goal.returns
returns c queue q ws released =
    let now = c.loop-left.invariant.struck queue q ws released in
    let none = no_more now.1 c.loop-left.left now.3 c.loop-left-test.false in
    subst (AreStruck c.args.geometry.now c.args.self.now c.loop-left.self queue) (sym (now.2 ∙ ap (λ l. now.0 ++ l) none ∙ append-nil now.0)) now.4
