-- One number more is visited.
use Rattle.std.proofs.Common.{◌<◌, [], ◌∷◌, take, length, sym, subst, rules, slice_index_or}
use Rattle.std.proofs.lemmas.List.{take_more}
use Rattle.frozen.specs.Kept.{frozen_view}
use Rattle.connectivity.specs.Walk.{Visits}
use Rattle.connectivity.proofs.VisitLemmas.{visits_append}
use Rattle.connectivity.proofs.alone.visit_all.Goals as goal

pub loop-number-preserved : goal.loop-number-preserved
loop-number-preserved c =
    let kept = c.args.frozen.now in
    let numbers = c.args.numbers.now in
    let i = c.loop-number.number-index in
    let low : i < length numbers = search rules in
    subst (λ xs. Visits kept.geometry (frozen_view kept) xs c.args.reached.now.keys c.args.next.now.items c.visit.new.reached.keys c.visit.new.next.items) (sym (take_more numbers i 0 low))
    (visits_append kept.geometry (frozen_view kept) (take i numbers) (slice_index_or numbers i 0 ∷ []) c.args.reached.now.keys c.args.next.now.items
    c.loop-number.reached.keys c.loop-number.next.items c.visit.new.reached.keys c.visit.new.next.items c.loop-number.invariant c.in_ok-visit.ensures.visited)
