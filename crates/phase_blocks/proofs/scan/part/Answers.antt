-- The loop goes over the numbers that stand in the group.
use Rattle.std.proofs.Common.{◌≡◌, ℕ, subst, ap, ◌∙◌, arith}
use Rattle.model.specs.Layout.{Geometry}
use Rattle.frozen.specs.Kept.{frozen_view}
use Rattle.phase_blocks.specs.Parts.{Gathered, IsGathered, Tells, with_inode, with_uses}
use Rattle.phase_blocks.proofs.Scanning.{group_below, no_numbers, none_yet, one_more, whole_group}
use Rattle.model.specs.Units.{AreNumbers, only, stands_in}
use Rattle.model.proofs.Adding.{IfOk-both}
use Rattle.model.proofs.GroupNumbers.{all_before, all_from, first_number, none_before, numbers_after, same_numbers}
use Rattle.phase_blocks.proofs.Gathering.{gathered_in_order}
use Rattle.phase_blocks.proofs.scan.part.Goals as goal

pub returns-then-unit-groups-clause-part : goal.returns-then-unit-groups-clause-part
returns-then-unit-groups-clause-part c =
    let geo = c.args.frozen.now.geometry in
    let view = frozen_view c.args.frozen.now in
    let count : c.groups.result ≡ geo.groups = c.groups.ensures.count ∙ ap (λ (g : Geometry). g.groups) c.geometry-geometry.ensures.geometry in
    no_numbers geo view c.args.unit c.new-part.result (omega (arith, c.if-unit-groups.true)) (c.new-part.ensures.part geo view)

pub returns-then-unit-groups-clause-no_group : goal.returns-then-unit-groups-clause-no_group
returns-then-unit-groups-clause-no_group c = λ past. c.new-part.ensures.empty

pub loop-number-init : goal.loop-number-init
loop-number-init c =
    let geo = c.args.frozen.now.geometry in
    let view = frozen_view c.args.frozen.now in
    let all : AreNumbers geo c.args.unit c.into_iter-number-iterator.result =
    same_numbers c.geometry-geometry.ensures.geometry c.into_iter-number-iterator.ensures.into_iter_gives c.numbers_of-number-items.ensures in (
      none_yet geo view c.args.unit c.new-part.result c.into_iter-number-iterator.result.start (none_before geo c.args.unit c.into_iter-number-iterator.result all) (c.new-part.ensures.part geo view).told,
      all_from geo c.args.unit c.into_iter-number-iterator.result all,
    )

pub look_at_inode-requires : goal.look_at_inode-requires
look_at_inode-requires c =
    let e = c.in-Some.ensures.steps in
    ((c.loop-number.invariant.1 c.in-Some.number (omega (arith, e.1.1))).0 (omega (arith, e.1.0, e.1.1))).0

pub loop-number-preserved : goal.loop-number-preserved
loop-number-preserved c =
    let geo = c.args.frozen.now.geometry in
    let view = frozen_view c.args.frozen.now in
    let e = c.in-Some.ensures.steps in
    let start = c.loop-number.number-iterator.start in
    let end = c.loop-number.number-iterator.end in
    let here = first_number geo c.args.unit start end c.loop-number.invariant.1 e.1.0 in
    let looked = c.in_ok-look_at_inode.ensures.looked (group_below geo c.args.unit start) (λ i l. group_below geo c.args.unit start i) c.loop-number.invariant.0 in (
      one_more geo view c.args.unit c.look_at_inode.new.part start c.next.new.self.start e.1.2 here.1
          (subst (λ n. Tells geo view (with_inode (group_below geo c.args.unit start) n) (with_uses (λ i l. group_below geo c.args.unit start i) n) c.look_at_inode.new.part) e.1.1 looked),
      numbers_after geo c.args.unit start end c.next.new.self.start c.next.new.self.end e.1.2 e.0 c.loop-number.invariant.1,
    )

pub returns-clause-part : goal.returns-clause-part
returns-clause-part c =
    let geo = c.args.frozen.now.geometry in
    let view = frozen_view c.args.frozen.now in
    let e = c.in-None.ensures.steps in
    let start = c.loop-number.number-iterator.start in
    let told =
    whole_group geo view c.args.unit c.loop-number.part start
    (all_before geo c.args.unit start c.loop-number.number-iterator.end c.loop-number.invariant.1 e.1.0) c.loop-number.invariant.0 in
    let uses = λ (i l : ℕ). stands_in geo (only c.args.unit) i in
    let Gathers = λ (part : Gathered). (part.found ≡ c.loop-number.part.found) → IsGathered geo view (stands_in geo (only c.args.unit)) uses part in
    IfOk-both c.in_order.result _ Gathers _ (λ part found gathers. gathers found) c.in_order.ensures.found
    (IfOk-both c.in_order.result _ _ Gathers (λ part order same found. gathered_in_order geo view (stands_in geo (only c.args.unit)) uses c.loop-number.part part told order same found)
    c.in_order.ensures.order c.in_order.ensures.same)
