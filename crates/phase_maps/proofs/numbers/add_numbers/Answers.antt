-- The numbers of the group, one after another.
use Rattle.std.proofs.Common.{◌&&◌, eqb, ltb, subst, sym, arith}
use Rattle.model.specs.Growth.{Adds}
use Rattle.model.specs.Units.{AreNumbers, only, stands_in}
use Rattle.model.proofs.GroupNumbers.{all_before, all_from, first_number, none_before, numbers_after, same_numbers}
use Rattle.frozen.specs.Kept.{frozen_view}
use Rattle.phase_maps.specs.NumberFindings.{IsFoundOfNumbers}
use Rattle.phase_maps.proofs.NumberLemmas.{found_first, found_next, found_all}
use Rattle.phase_maps.proofs.numbers.add_numbers.Goals as goal

pub loop-number-init : goal.loop-number-init
loop-number-init c =
    let geo = c.args.frozen.now.geometry in
    let all : AreNumbers geo c.args.group c.into_iter-number-iterator.result =
    same_numbers c.geometry.ensures.geometry c.into_iter-number-iterator.ensures.into_iter_gives c.numbers_of-number-items.ensures in (
      found_first geo (frozen_view c.args.frozen.now) c.args.group c.args.found.now.items c.into_iter-number-iterator.result.start
          (none_before geo c.args.group c.into_iter-number-iterator.result all),
      all_from geo c.args.group c.into_iter-number-iterator.result all,
    )

pub add_number-requires : goal.add_number-requires
add_number-requires c =
    let e = c.in-Some.ensures.steps in
    ((c.loop-number.invariant.1 c.in-Some.number (omega (arith, e.1.1))).0 (omega (arith, e.1.0, e.1.1))).0

pub loop-number-preserved : goal.loop-number-preserved
loop-number-preserved c =
    let geo = c.args.frozen.now.geometry in
    let view = frozen_view c.args.frozen.now in
    let e = c.in-Some.ensures.steps in
    let start = c.loop-number.number-iterator.start in
    let end = c.loop-number.number-iterator.end in
    let here = first_number geo c.args.group start end c.loop-number.invariant.1 e.1.0 in
    let added = subst (λ n. Adds (IsFoundOfNumbers geo view (λ i. eqb i n)) c.loop-number.found.items c.add_number.new.found.items) e.1.1 c.in_ok-add_number.ensures in (
      subst (λ n. Adds (IsFoundOfNumbers geo view (λ i. stands_in geo (only c.args.group) i && ltb i n)) c.args.found.now.items c.add_number.new.found.items) (sym e.1.2)
          (found_next geo view c.args.group c.args.found.now.items start c.loop-number.found.items c.add_number.new.found.items here.1 c.loop-number.invariant.0 added),
      numbers_after geo c.args.group start end c.next.new.self.start c.next.new.self.end e.1.2 e.0 c.loop-number.invariant.1,
    )

pub returns : goal.returns
returns c =
    let geo = c.args.frozen.now.geometry in
    let e = c.in-None.ensures.steps in
    let start = c.loop-number.number-iterator.start in
    found_all geo (frozen_view c.args.frozen.now) c.args.group c.args.found.now.items start c.loop-number.found.items
    (all_before geo c.args.group start c.loop-number.number-iterator.end c.loop-number.invariant.1 e.1.0) c.loop-number.invariant.0
