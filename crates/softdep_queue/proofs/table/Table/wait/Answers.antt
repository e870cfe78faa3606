use Rattle.std.proofs.Common.{◌+◌, not, [], ◌∷◌, ap, ap₂, sym, ◌∙◌, subst, arith, map, take, slice_index_or}
use Rattle.updates.specs.declared.cell.Cell.TheVariants.{Record}
use Rattle.updates.specs.Values.{cell}
use Rattle.softdep_queue.specs.Adding.{lasts, is_own, counted, IsBehind}
use Rattle.softdep_queue.proofs.Waits.{may_wait, nothing_behind, is_cell, counted_same, counted_append, lasts_few, lasts_low, lasts_more, lasts_whole, behind_more}
use Rattle.softdep_queue.proofs.MoreCounts.{count_low}
use Rattle.softdep_queue.proofs.table.Table.wait.Goals as goal

pub wait_for-waiting-requires-clause-last : goal.wait_for-waiting-requires-clause-last
wait_for-waiting-requires-clause-last c =
    let room = c.requires.room in
    may_wait c.args.geometry.now c.args.self.now c.requires.held.queue c.requires.held.q c.requires.held.holds.written c.requires.held.holds.takes c.args.self.now c.args.number [] (nothing_behind c.args.self.now c.args.number) (omega (arith, room)) (cell c.args.own) c.requires.own

pub loop-earlier-init : goal.loop-earlier-init
loop-earlier-init c = record { behind = c.wait_for-waiting.ensures.behind; count = c.wait_for-waiting.ensures.count }

pub wait_for-waiting-requires-in-loop-earlier-clause-cell : goal.wait_for-waiting-requires-in-loop-earlier-clause-cell
wait_for-waiting-requires-in-loop-earlier-clause-cell c = is_cell c.args.geometry.now c.args.after.now c.loop-earlier.earlier-index _ c.requires.after c.loop-earlier-test.true

pub wait_for-waiting-requires-in-loop-earlier-clause-last : goal.wait_for-waiting-requires-in-loop-earlier-clause-last
wait_for-waiting-requires-in-loop-earlier-clause-last c =
    let room = c.requires.room in
    let below = c.loop-earlier-test.true in
    let ids = lasts c.args.geometry.now c.args.self.now (cell c.args.own ∷ map cell (take c.loop-earlier.earlier-index c.args.after.now)) in
    let few = lasts_low c.args.geometry.now c.args.self.now c.args.own c.args.after.now c.loop-earlier.earlier-index in
    may_wait c.args.geometry.now c.args.self.now c.requires.held.queue c.requires.held.q c.requires.held.holds.written c.requires.held.holds.takes c.loop-earlier.self c.args.number ids c.loop-earlier.invariant.behind (omega (arith, room, below, few)) _
    (is_cell c.args.geometry.now c.args.after.now c.loop-earlier.earlier-index _ c.requires.after below)

pub overflow_add-waiting : goal.overflow_add-waiting
overflow_add-waiting c =
    let below = c.loop-earlier-test.true in
    let few = lasts_low c.args.geometry.now c.args.self.now c.args.own c.args.after.now c.loop-earlier.earlier-index in
    let count = c.loop-earlier.invariant.count in
    let more = c.wait_for-waiting-in-loop-earlier.ensures.count in
    let next = lasts c.args.geometry.now c.loop-earlier.self (cell (slice_index_or c.args.after.now c.loop-earlier.earlier-index (Record 0)) ∷ []) in
    let one = lasts_few c.args.geometry.now c.loop-earlier.self (cell (slice_index_or c.args.after.now c.loop-earlier.earlier-index (Record 0)) ∷ []) in
    let before = lasts c.args.geometry.now c.args.self.now (cell c.args.own ∷ map cell (take c.loop-earlier.earlier-index c.args.after.now)) in
    let counts = count_low (λ i. not (is_own c.args.self.now c.args.home i)) before in
    let counts_one = count_low (λ i. not (is_own c.loop-earlier.self c.args.home i)) next in
    omega (arith, below, few, count, more, one, counts, counts_one)

pub loop-earlier-preserved : goal.loop-earlier-preserved
loop-earlier-preserved c =
    let i = c.loop-earlier.invariant in
    let t = c.args.self.now in
    let geo = c.args.geometry.now in
    let k = c.loop-earlier.earlier-index in
    let next = cell (slice_index_or c.args.after.now k (Record 0)) in
    let ids = lasts geo t (cell c.args.own ∷ map cell (take k c.args.after.now)) in
    let js = lasts geo c.loop-earlier.self (next ∷ []) in
    let more = lasts_more geo t c.loop-earlier.self c.args.own c.args.after.now k (Record 0) i.behind.latest c.loop-earlier-test.true in
    let count = i.count in
    let one = c.wait_for-waiting-in-loop-earlier.ensures.count in
    record {
      behind = subst (IsBehind t c.wait_for-waiting-in-loop-earlier.new.self c.args.number) more (behind_more t c.loop-earlier.self c.wait_for-waiting-in-loop-earlier.new.self c.args.number ids js i.behind c.wait_for-waiting-in-loop-earlier.ensures.behind);
      count = ap₂ (λ a b. a + b) count (one ∙ counted_same t c.loop-earlier.self c.args.number c.args.home ids js i.behind) ∙ sym (counted_append t c.args.home ids js) ∙ ap (counted t c.args.home) more;
    }

pub returns-clause-behind : goal.returns-clause-behind
returns-clause-behind c =
    subst (IsBehind c.args.self.now c.loop-earlier.self c.args.number) (lasts_whole c.args.geometry.now c.args.self.now c.args.own c.args.after.now c.loop-earlier.earlier-index c.loop-earlier-test.false) c.loop-earlier.invariant.behind

pub returns-clause-count : goal.returns-clause-count
returns-clause-count c =
    c.loop-earlier.invariant.count ∙ ap (counted c.args.self.now c.args.home) (lasts_whole c.args.geometry.now c.args.self.now c.args.own c.args.after.now c.loop-earlier.earlier-index c.loop-earlier-test.false)
