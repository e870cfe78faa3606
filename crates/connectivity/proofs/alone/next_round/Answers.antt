-- One directory more is followed.
use Rattle.std.proofs.Common.{◌≡◌, ◌<◌, ◌+◌, ◌++◌, [], ◌∷◌, take, length, sym, ap, ◌∙◌, subst, rules, slice_index_or}
use Rattle.std.proofs.lemmas.List.{take_more, append-nil}
use Rattle.std.proofs.lemmas.Grind.{flat_map-append}
use Rattle.frozen.specs.Kept.{frozen_view}
use Rattle.directories.specs.Named.{numbers_in}
use Rattle.connectivity.specs.Walk.{Visits, numbers_of}
use Rattle.connectivity.proofs.VisitLemmas.{visits_append}
use Rattle.connectivity.proofs.alone.next_round.Goals as goal

pub loop-directory-preserved : goal.loop-directory-preserved
loop-directory-preserved c =
    let kept = c.args.frozen.now in
    let round = c.args.round.now in
    let table = c.args.whole.now in
    let i = c.loop-directory.directory-index in
    let d = slice_index_or round i 0 in
    let low : i < length round = search rules in
    let more : numbers_of table (take (i + 1) round) ≡ numbers_of table (take i round) ++ numbers_in table d =
    ap (numbers_of table) (take_more round i 0 low) ∙ flat_map-append (numbers_in table) (take i round) (d ∷ [])
    ∙ ap (λ xs. numbers_of table (take i round) ++ xs) (append-nil (numbers_in table d)) in
    subst (λ xs. Visits kept.geometry (frozen_view kept) xs c.args.reached.now.keys [] c.visit_all.new.reached.keys c.visit_all.new.next.items) (sym more)
    (visits_append kept.geometry (frozen_view kept) (numbers_of table (take i round)) (numbers_in table d) c.args.reached.now.keys []
    c.loop-directory.reached.keys c.loop-directory.next.items c.visit_all.new.reached.keys c.visit_all.new.next.items c.loop-directory.invariant
    (subst (λ xs. Visits kept.geometry (frozen_view kept) xs c.loop-directory.reached.keys c.loop-directory.next.items c.visit_all.new.reached.keys c.visit_all.new.next.items)
    c.of.ensures c.in_ok-visit_all.ensures.visited))
