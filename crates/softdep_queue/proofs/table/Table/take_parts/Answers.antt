use Rattle.std.proofs.Common.{◌≡◌, ◌+◌, ◌≤◌, ◌++◌, List, [], ◌∷◌, inl, inr, refl, sym, ap, ◌∙◌, subst, length, arith, true, false, length-append}
use Rattle.ordering.specs.Cuts.{Pending, cell_of}
use Rattle.queue_model.specs.Blocks.{home_of}
use Rattle.queue_model.specs.Entries.{Entry, Queue}
use Rattle.queue_model.proofs.Lists.{contains_cases, contains_none}
use Rattle.updates.specs.Alone.{IsPutAll}
use Rattle.softdep_queue.specs.Ties.{Takes}
use Rattle.softdep_queue.specs.Taking.{TakesOne, changes_of}
use Rattle.softdep_queue.proofs.Taken.{few_taken}
use Rattle.softdep_queue.proofs.TakenAll.{takes_all}
use Rattle.softdep_queue.proofs.table.Table.take_parts.Goals as goal

pub loop-count-init : goal.loop-count-init
loop-count-init c = record {
  held = c.requires.held;
  taken = λ queue q ws takes. ([], takes, refl, refl, λ e m. absurd (contains_none e m));
}

pub take_one-requires-clause-held : goal.take_one-requires-clause-held
take_one-requires-clause-held c =
    let h = c.requires.held in
    let now = c.loop-count.invariant.taken h.queue h.q h.holds.written h.holds.takes in
    record { queue = h.queue; q = h.q; ws = now.0 ++ h.holds.written; takes = now.1 }

pub take_one-requires-clause-address : goal.take_one-requires-clause-address
take_one-requires-clause-address c =
    let h = c.requires.held in
    let now = c.loop-count.invariant.taken h.queue h.q h.holds.written h.holds.takes in
    let blocks = now.1.ties.blocks in
    let low = c.requires.address in
    omega (arith, blocks, low)

module _ (c : goal.In-loop-count) where
  one : (queue : Queue) (q : List Pending) (ws : List Entry) → Takes c.args.geometry.now c.loop-count.self queue q ws
      → TakesOne c.args.geometry.now queue q c.args.address ws c.take_one.new.self c.loop-count.block c.take_one.new.block true
  one queue q ws takes = subst (TakesOne c.args.geometry.now queue q c.args.address ws c.take_one.new.self c.loop-count.block c.take_one.new.block) c.loop-count-test.true (c.take_one.ensures queue q ws takes)

  few : c.loop-count.count + 1 ≤ length c.take_one.new.self.nodes.items
  few =
      let h = c.requires.held in
      let now = c.loop-count.invariant.taken h.queue h.q h.holds.written h.holds.takes in
      let next = one h.queue h.q (now.0 ++ h.holds.written) now.1 in
      let l = few_taken c.args.geometry.now c.take_one.new.self h.queue h.q _ _ next.2.ties (next.0 ∷ now.0 ++ h.holds.written) next.2.each in
      let n = now.2 in
      let all = length-append now.0 h.holds.written in
      omega (arith, l, n, all)

  same : length c.take_one.new.self.nodes.items ≡ length c.loop-count.self.nodes.items
  same =
      let h = c.requires.held in
      let now = c.loop-count.invariant.taken h.queue h.q h.holds.written h.holds.takes in
      sym (one h.queue h.q (now.0 ++ h.holds.written) now.1).2.ties.next ∙ now.1.ties.next

pub overflow_add-count : goal.overflow_add-count
overflow_add-count c = let f = few c in omega (arith, f, c.take_one.new.self.nodes.ok, c.take_one.new.self.nodes.small)

pub loop-count-smaller : goal.loop-count-smaller
loop-count-smaller c = let f = few c in let s = same c in omega (arith, f, s)

pub loop-count-preserved : goal.loop-count-preserved
loop-count-preserved c = record {
  held = c.loop-count.invariant.held;
  taken = λ queue q ws takes.
      let now = c.loop-count.invariant.taken queue q ws takes in
      let next = one c queue q (now.0 ++ ws) now.1 in (
        next.0 ∷ now.0,
        next.2,
        (let n = now.2 in omega (arith, n)),
        (c.loop-count.block, now.3, next.3),
        λ e m. elim (contains_cases next.0 e now.0 m) [ inl d ↦ ap (λ (x : Entry). home_of c.args.geometry.now (cell_of x.change)) (sym d) ∙ next.1 | inr older ↦ now.4 e older ],
      );
}

pub returns : goal.returns
returns c queue q loose holds =
    let geo = c.args.geometry.now in
    let now = c.loop-count.invariant.taken queue q holds.written holds.takes in
    let end : TakesOne geo queue q c.args.address (now.0 ++ holds.written) c.take_one.new.self c.loop-count.block c.take_one.new.block false
    = subst (TakesOne geo queue q c.args.address (now.0 ++ holds.written) c.take_one.new.self c.loop-count.block c.take_one.new.block) c.loop-count-test.false (c.take_one.ensures queue q (now.0 ++ holds.written) now.1) in
    takes_all geo c.take_one.new.self queue q loose c.args.address holds.written now.0 c.args.block.now c.take_one.new.block c.loop-count.count end.0 now.4 end.1 holds.takes.ties.represents holds.cut now.2
    (subst (IsPutAll geo (changes_of now.0) c.args.block.now) (sym end.2) now.3)
