-- The walk begins at the root, each round keeps what holds of it and follows fewer directories than it reaches, and at the end all is reached.
use Rattle.std.proofs.Common.{◌≡◌, ◌<◌, List, [], length, sym, ap, ◌∙◌, subst, arith, ℕ, Vec, Global, BTreeSet}
use Rattle.std.proofs.lemmas.Bool.{eqb-false, eqb-true}
use Rattle.std.proofs.lemmas.List.{nil_from_length}
use Rattle.std.proofs.lemmas.Result.{err_from_is_err_and}
use Rattle.frozen.specs.Kept.{frozen_view}
use Rattle.model.specs.Layout.{inode_count}
use Rattle.model.specs.Reached.{AreReached}
use Rattle.connectivity.specs.Walk.{IsWalk, Visits, numbers_of}
use Rattle.connectivity.proofs.WalkLemmas.{walk_from_nothing, walk_from_root, walk_round, walk_done, walk_small, round_smaller}
use Rattle.connectivity.proofs.alone.walk.Goals as goal
use Rattle.connectivity.proofs.alone.walk.Goals.{then-is_directory_at+in_ok-visit, else-is_directory_at}

pub loop-alloc-init : goal.loop-alloc-init
loop-alloc-init c =
    let kept = c.args.frozen.now in
    elim c.if-is_directory_at.branch [
      | then-is_directory_at+in_ok-visit w ↦
          subst (λ (s : BTreeSet ℕ). IsWalk kept.geometry (frozen_view kept) c.args.whole.now s.keys c.if-is_directory_at.round.items) (sym w.reached-is)
          (subst (λ (v : Vec ℕ Global). IsWalk kept.geometry (frozen_view kept) c.args.whole.now w.visit.new.reached.keys v.items) (sym w.round-is)
          (walk_from_root kept.geometry (frozen_view kept) c.args.whole.now c.new-reached.result.keys c.new-round.result.items w.visit.new.reached.keys w.visit.new.next.items
          c.new-reached.ensures.empty c.new-round.ensures.items (sym c.is_directory_at.ensures ∙ w.if-is_directory_at.true) w.in_ok-visit.ensures.visited))
      | else-is_directory_at w ↦
          walk_from_nothing kept.geometry (frozen_view kept) c.args.whole.now c.if-is_directory_at.reached.keys c.if-is_directory_at.round.items
          (ap (λ (s : BTreeSet ℕ). s.keys) w.reached-is ∙ c.new-reached.ensures.empty) (ap (λ (v : Vec ℕ Global). v.items) w.round-is ∙ c.new-round.ensures.items)
          (sym c.is_directory_at.ensures ∙ w.if-is_directory_at.false)
    ]

pub loop-alloc-smaller : goal.loop-alloc-smaller
loop-alloc-smaller c =
    let kept = c.args.frozen.now in
    let visited = subst (λ xs. Visits kept.geometry (frozen_view kept) (numbers_of c.args.whole.now xs) c.loop-alloc.reached.keys [] c.next_round.new.reached.keys c.in_ok-round.round.items)
    c.as_slice.ensures.value c.in_ok-round.ensures.visited in
    let next = walk_round kept.geometry (frozen_view kept) c.args.whole.now c.loop-alloc.reached.keys c.loop-alloc.round.items c.next_round.new.reached.keys c.in_ok-round.round.items
    c.loop-alloc.invariant visited in
    let count : c.loop-alloc.round.len ≡ length c.loop-alloc.round.items = c.loop-alloc.round.ok.0 in
    let apart : c.loop-alloc.round.len ≡ 0 → ⊥ = eqb-false c.loop-alloc.round.len 0 (sym c.is_empty.ensures ∙ c.loop-alloc-test.true) in
    let some : 0 < length c.loop-alloc.round.items = omega (arith, count, apart) in
    round_smaller (inode_count kept.geometry) (length c.loop-alloc.reached.keys) (length c.loop-alloc.round.items) (length c.next_round.new.reached.keys) (length c.in_ok-round.round.items)
    visited.count (walk_small kept.geometry (frozen_view kept) c.args.whole.now c.next_round.new.reached.keys c.in_ok-round.round.items next) some

pub loop-alloc-preserved : goal.loop-alloc-preserved
loop-alloc-preserved c =
    let kept = c.args.frozen.now in
    walk_round kept.geometry (frozen_view kept) c.args.whole.now c.loop-alloc.reached.keys c.loop-alloc.round.items c.next_round.new.reached.keys c.in_ok-round.round.items
    c.loop-alloc.invariant (subst (λ xs. Visits kept.geometry (frozen_view kept) (numbers_of c.args.whole.now xs) c.loop-alloc.reached.keys [] c.next_round.new.reached.keys c.in_ok-round.round.items)
    c.as_slice.ensures.value c.in_ok-round.ensures.visited)

pub returns-clause-reached : goal.returns-clause-reached
returns-clause-reached c = λ numbers named every.
    let kept = c.args.frozen.now in
    let none : c.loop-alloc.round.items ≡ [] =
    nil_from_length c.loop-alloc.round.items (sym c.loop-alloc.round.ok.0 ∙ eqb-true c.loop-alloc.round.len 0 (sym c.is_empty.ensures ∙ c.loop-alloc-test.false)) in
    subst (λ (inodes : List ℕ). AreReached kept.geometry (frozen_view kept) inodes) (sym c.in_ok-of_set.ensures)
    (walk_done kept.geometry (frozen_view kept) c.args.whole.now c.loop-alloc.reached.keys
    (subst (λ round. IsWalk kept.geometry (frozen_view kept) c.args.whole.now c.loop-alloc.reached.keys round) none c.loop-alloc.invariant)
    (c.whole_tables_have_every_directory.ensures.directory kept.geometry (frozen_view kept) 2 numbers c.args.whole.now named every))

pub returns-in_err-visit-clause-reached : goal.returns-in_err-visit-clause-reached
returns-in_err-visit-clause-reached c =
    let p = err_from_is_err_and c.from_residual.result c.from_residual.ensures.1 in rw p.1 tt

pub returns-in_err-visit-clause-error : goal.returns-in_err-visit-clause-error
returns-in_err-visit-clause-error c =
    let p = err_from_is_err_and c.from_residual.result c.from_residual.ensures.1 in rw (p.1, p.2) c.in_err-visit.ensures.error
