-- The numbers of the group, one after another.
use Rattle.std.proofs.Common.{[], List, eqb, ◌%◌, ℕ, subst, sym, ap, ◌∙◌, arith}
use Rattle.findings.specs.declared.finding.Finding.{Finding}
use Rattle.frozen.specs.Kept.{frozen_view}
use Rattle.model.specs.Growth.{Adds}
use Rattle.model.specs.Layout.{Geometry}
use Rattle.model.specs.Units.{AreNumbers}
use Rattle.model.proofs.GroupNumbers.{all_before, all_from, first_number, none_before, numbers_after, same_numbers}
use Rattle.refcounts.specs.Counts.{count_at}
use Rattle.refcounts.specs.Links.{IsFoundAmong}
use Rattle.refcounts.proofs.LinkLemmas.{In, all_found, found_all, found_first, found_next, other_found, reached_found}
use Rattle.refcounts.proofs.links.findings.Goals as goal

pub loop-number-init : goal.loop-number-init
loop-number-init c =
    let geo = c.args.frozen.now.geometry in
    let view = frozen_view c.args.frozen.now in
    let all : AreNumbers geo c.args.unit c.into_iter-number-iterator.result =
    same_numbers c.geometry-geometry.ensures.geometry c.into_iter-number-iterator.ensures.into_iter_gives c.numbers_of-number-items.ensures in
    let start = c.into_iter-number-iterator.result.start in
    record {
      found = subst (λ (xs : List Finding). Adds (IsFoundAmong geo view c.args.reached.now c.args.counts.now (In geo view c.args.reached.now c.args.counts.now c.args.unit start)) [] xs) (sym c.new-found.ensures.items)
          (found_first geo view c.args.reached.now c.args.counts.now c.args.unit start (none_before geo c.args.unit c.into_iter-number-iterator.result all));
      numbers = all_from geo c.args.unit c.into_iter-number-iterator.result all;
    }

pub add_links-requires : goal.add_links-requires
add_links-requires c =
    let e = c.in-Some.ensures.steps in
    ((c.loop-number.invariant.numbers c.in-Some.number (omega (arith, e.1.1))).0 (omega (arith, e.1.0, e.1.1))).0

pub loop-number-preserved-in-Continue-1 : goal.loop-number-preserved-in-Continue-1
loop-number-preserved-in-Continue-1 c =
    let geo = c.args.frozen.now.geometry in
    let view = frozen_view c.args.frozen.now in
    let reached = c.args.reached.now in
    let counts = c.args.counts.now in
    let e = c.in-Some.ensures.steps in
    let start = c.loop-number.number-iterator.start in
    let end = c.loop-number.number-iterator.end in
    let here = first_number geo c.args.unit start end c.loop-number.invariant.numbers e.1.0 in
    let number = ((c.loop-number.invariant.numbers c.in-Some.number (omega (arith, e.1.1))).0 (omega (arith, e.1.0, e.1.1))).0 in
    let place = c.of-entries.ensures ∙ ap (λ m. count_at counts (c.in-Some.number % m)) (c.inodes_a_group.ensures.count ∙ ap (λ (g : Geometry). g.inodes) c.geometry-geometry.ensures.geometry) in
    let added = reached_found geo view reached counts c.in-Some.number c.of-entries.result c.loop-number.found.items c.add_links.new.found.items number (sym c.has.ensures ∙ c.if-has.true) place c.in_ok-add_links.ensures in
    let own = subst (λ (n : ℕ). Adds (IsFoundAmong geo view reached counts (λ i. eqb i n)) c.loop-number.found.items c.add_links.new.found.items) e.1.1 added in
    record {
      found = subst (λ (n : ℕ). Adds (IsFoundAmong geo view reached counts (In geo view reached counts c.args.unit n)) [] c.add_links.new.found.items) (sym e.1.2)
          (found_next geo view reached counts c.args.unit start c.loop-number.found.items c.add_links.new.found.items here.1 c.loop-number.invariant.found own);
      numbers = numbers_after geo c.args.unit start end c.next.new.self.start c.next.new.self.end e.1.2 e.0 c.loop-number.invariant.numbers;
    }

pub loop-number-preserved : goal.loop-number-preserved
loop-number-preserved c =
    let geo = c.args.frozen.now.geometry in
    let view = frozen_view c.args.frozen.now in
    let reached = c.args.reached.now in
    let counts = c.args.counts.now in
    let e = c.in-Some.ensures.steps in
    let start = c.loop-number.number-iterator.start in
    let end = c.loop-number.number-iterator.end in
    let here = first_number geo c.args.unit start end c.loop-number.invariant.numbers e.1.0 in
    let added = other_found geo view reached counts c.in-Some.number c.loop-number.found.items c.loop-number.found.items (sym c.has.ensures ∙ c.if-has.false) cc in
    let own = subst (λ (n : ℕ). Adds (IsFoundAmong geo view reached counts (λ i. eqb i n)) c.loop-number.found.items c.loop-number.found.items) e.1.1 added in
    record {
      found = subst (λ (n : ℕ). Adds (IsFoundAmong geo view reached counts (In geo view reached counts c.args.unit n)) [] c.loop-number.found.items) (sym e.1.2)
          (found_next geo view reached counts c.args.unit start c.loop-number.found.items c.loop-number.found.items here.1 c.loop-number.invariant.found own);
      numbers = numbers_after geo c.args.unit start end c.next.new.self.start c.next.new.self.end e.1.2 e.0 c.loop-number.invariant.numbers;
    }

pub returns-then-unit-groups-clause-found : goal.returns-then-unit-groups-clause-found
returns-then-unit-groups-clause-found c = λ are entries low.
    absurd (omega (arith, low, c.if-unit-groups.true, c.groups.ensures.count, ap (λ (g : Geometry). g.groups) c.geometry-geometry.ensures.geometry))

pub returns-clause-found : goal.returns-clause-found
returns-clause-found c = λ are entries low.
    let geo = c.args.frozen.now.geometry in
    let view = frozen_view c.args.frozen.now in
    let e = c.in-None.ensures.steps in
    let start = c.loop-number.number-iterator.start in
    all_found geo view c.args.reached.now c.args.counts.now c.args.unit are entries c.loop-number.found.items
    (found_all geo view c.args.reached.now c.args.counts.now c.args.unit start c.loop-number.found.items
    (all_before geo c.args.unit start c.loop-number.number-iterator.end c.loop-number.invariant.numbers e.1.0) c.loop-number.invariant.found)
