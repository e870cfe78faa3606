use Rattle.std.proofs.Common.{◌+◌, ℕ, List, sym, ap, ◌∙◌, subst, take, arith}
use Rattle.frozen.specs.Kept.{frozen_view}
use Rattle.model.specs.Layout.{Geometry}
use Rattle.refcounts.specs.Counts.{Counted}
use Rattle.refcounts.specs.Parts.{numbers_at}
use Rattle.model.specs.Named.{times}
use Rattle.std.specs.List.{flat_map}
use Rattle.refcounts.proofs.CountLemmas.{all_lists, are_entries, next_list, of_more, of_none}
use Rattle.refcounts.proofs.counting.counts.Goals as goal

pub loop-part-init : goal.loop-part-init
loop-part-init c =
    let geo = c.args.frozen.now.geometry in
    record {
      places = c.in_ok-counts.ensures.length ∙ c.inodes_a_group.ensures.count ∙ ap (λ (g : Geometry). g.inodes) c.geometry-geometry.ensures.geometry;
      fits = λ k. let none = c.in_ok-counts.ensures.none k in omega (arith, none);
      of = of_none geo c.args.unit c.in_ok-counts.counts c.in_ok-counts.ensures.none;
    }

pub loop-part-preserved : goal.loop-part-preserved
loop-part-preserved c =
    let geo = c.args.frozen.now.geometry in
    let i = c.loop-part.invariant in
    let k = c.loop-part.part-index in
    let parts = c.args.parts.now in
    let old = c.loop-part.counts in
    let new = c.add_all.new.self in
    let same = c.geometry-geometry.ensures.geometry in
    let counted : Counted geo c.args.unit c.of.result.now old new = subst (λ (q : Geometry). Counted q c.args.unit c.of.result.now old new) same
    (c.add_all.ensures.counted (i.places ∙ sym (ap (λ (g : Geometry). g.inodes) same))) in
    record {
      places = c.add_all.ensures.length ∙ i.places;
      fits = c.add_all.ensures.counts i.fits;
      of = of_more geo c.args.unit (take k parts) (take (k + 1) parts) old new c.of.result.now i.fits counted
          (λ (n : ℕ). next_list (λ p. numbers_at p c.args.unit) parts k c.part-item.result c.loop-part-test.true c.part-item.is n
          ∙ ap (λ (xs : List ℕ). times n (flat_map (λ p. numbers_at p c.args.unit) (take k parts)) + times n xs) (sym c.of.ensures)) i.of;
    }

pub returns-clause-counts : goal.returns-clause-counts
returns-clause-counts c = λ reached are each low.
    let geo = c.args.frozen.now.geometry in
    are_entries geo c.geometry-geometry.ensures.frame.geometry (frozen_view c.args.frozen.now) reached are c.args.parts.now c.args.unit c.loop-part.counts each c.loop-part.invariant.places
    (all_lists geo c.args.unit c.loop-part.part-index c.args.parts.now c.loop-part.counts c.loop-part-test.false c.loop-part.invariant.of)
