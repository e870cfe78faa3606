use Rattle.std.proofs.Common.{◌≡◌, ◌++◌, [], ◌∷◌, ℕ, Option, Some, inl, inr, IfSome, MatchOption, refl, sym, ap, ◌∙◌, subst, arith}
use Rattle.model.specs.Cells.{Update}
use Rattle.ordering.specs.Cuts.{cell_of}
use Rattle.queue_model.specs.Blocks.{home_of}
use Rattle.queue_model.specs.Entries.{Entry}
use Rattle.queue_model.proofs.Lists.{contains_cases, contains_none}
use Rattle.updates.specs.Alone.{IsPutInto}
use Rattle.softdep_queue.specs.declared.table.Table.{Table}
use Rattle.softdep_queue.specs.Ties.{Takes, Shows, node_at}
use Rattle.softdep_queue.specs.Taking.{ShowsCell}
use Rattle.softdep_queue.proofs.Given.{few_more, newest_put, newest_shows}
use Rattle.softdep_queue.proofs.TakenAll.{takes_all}
use Rattle.softdep_queue.proofs.table.Table.take_whole.Goals as goal

pub loop-number-init : goal.loop-number-init
loop-number-init c = record {
  held = c.requires.held;
  taken = λ queue q ws takes. ([], takes, refl, refl, λ e m. absurd (contains_none e m));
}

pub take_next-requires-clause-held : goal.take_next-requires-clause-held
take_next-requires-clause-held c =
    let h = c.requires.held in
    let now = c.loop-number.invariant.taken h.queue h.q h.holds.written h.holds.takes in
    (c.args.geometry.now, record { queue = h.queue; q = h.q; ws = now.0 ++ h.holds.written; takes = now.1 })

pub take_next-requires-clause-address : goal.take_next-requires-clause-address
take_next-requires-clause-address c =
    let h = c.requires.held in
    let now = c.loop-number.invariant.taken h.queue h.q h.holds.written h.holds.takes in
    let blocks = now.1.ties.blocks in
    let low = c.requires.address in
    omega (arith, blocks, low)

-- ---- one more

pub overflow_add-count : goal.overflow_add-count
overflow_add-count c =
    let h = c.requires.held in
    let now = c.loop-number.invariant.taken h.queue h.q h.holds.written h.holds.takes in
    let next = c.in-Some.ensures.next c.args.geometry.now h.queue h.q (now.0 ++ h.holds.written) now.1 in
    let few = few_more c.args.geometry.now c.take_next.new.self h.queue h.q next.0 now.0 h.holds.written c.loop-number.count next.3 now.2 in
    omega (arith, few, c.take_next.new.self.nodes.ok, c.take_next.new.self.nodes.small)

pub loop-number-smaller : goal.loop-number-smaller
loop-number-smaller c =
    let h = c.requires.held in
    let now = c.loop-number.invariant.taken h.queue h.q h.holds.written h.holds.takes in
    let next = c.in-Some.ensures.next c.args.geometry.now h.queue h.q (now.0 ++ h.holds.written) now.1 in
    let few = few_more c.args.geometry.now c.take_next.new.self h.queue h.q next.0 now.0 h.holds.written c.loop-number.count next.3 now.2 in
    let before = now.1.ties.next in
    let after = next.3.ties.next in
    omega (arith, few, before, after)

pub loop-number-preserved : goal.loop-number-preserved
loop-number-preserved c = record {
  held = c.loop-number.invariant.held;
  taken = λ queue q ws takes.
      let now = c.loop-number.invariant.taken queue q ws takes in
      let next = c.in-Some.ensures.next c.args.geometry.now queue q (now.0 ++ ws) now.1 in (
        next.0 ∷ now.0,
        next.3,
        (let n = now.2 in omega (arith, n)),
        ap (λ i. Some i) (sym next.1),
        λ e m. elim (contains_cases next.0 e now.0 m) [ inl d ↦ ap (λ (x : Entry). home_of c.args.geometry.now (cell_of x.change)) (sym d) ∙ next.2 | inr older ↦ now.4 e older ],
      );
}

-- ---- none is left

pub put_last-requires : goal.put_last-requires
put_last-requires c =
    let h = c.requires.held in
    let geo = c.args.geometry.now in
    let now = c.loop-number.invariant.taken h.queue h.q h.holds.written h.holds.takes in
    let end = c.in_default.ensures.next geo h.queue h.q (now.0 ++ h.holds.written) now.1 in
    subst (λ (t : Table). IfSome c.loop-number.last (λ i. ShowsCell geo t i)) (sym end.1)
    (subst (λ (o : Option ℕ). IfSome o (λ i. ShowsCell geo c.loop-number.self i)) (sym now.3) (newest_shows geo c.loop-number.self h.queue h.q now.0 h.holds.written now.1))

pub returns : goal.returns
returns c queue q loose holds =
    let geo = c.args.geometry.now in
    let ws = holds.written in
    let now = c.loop-number.invariant.taken queue q ws holds.takes in
    let end = c.in_default.ensures.next geo queue q (now.0 ++ ws) now.1 in
    let takes = subst (λ (t : Table). Takes geo t queue q (now.0 ++ ws)) (sym end.1) now.1 in
    takes_all geo c.take_next.new.self queue q loose c.args.address ws now.0 c.args.block.now c.put_last.new.block c.loop-number.count takes now.4 end.0 holds.takes.ties.represents holds.cut now.2
    (newest_put geo c.blocks-2.ensures.geometry c.args.address c.requires.data_block c.take_next.new.self queue q now.0 ws c.args.block.now c.put_last.new.block takes now.4
    (subst (λ (o : Option ℕ). MatchOption o (c.put_last.new.block ≡ c.args.block.now) (λ i. (u : Update) → Shows (node_at c.take_next.new.self.nodes.items i).update u → IsPutInto geo u c.args.block.now c.put_last.new.block)) now.3 c.put_last.ensures))
