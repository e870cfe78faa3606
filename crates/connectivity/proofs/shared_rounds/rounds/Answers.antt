-- The walk begins with the root, and what is marked in the end is reachable.
use Rattle.std.proofs.Common.{◌≡◌, ℕ, ◌<◌, ◌≤◌, List, All, IsTrue, refl, sym, ap, ◌∙◌, subst}
use Rattle.std.proofs.lemmas.Result.{err_from_is_err_and}
use Rattle.claims.specs.Counting.{times}
use Rattle.claims.specs.Seats.{Seated, new_seat}
use Rattle.frozen.specs.Kept.{frozen_view}
use Rattle.model.specs.Layout.{Geometry, inode_count}
use Rattle.model.specs.Reached.{AreReached}
use Rattle.worker_counts.specs.Workers.{may_work}
use Rattle.connectivity.specs.Asked.{opening_round}
use Rattle.connectivity.proofs.SharedLemmas.{opening_yes, opening_low, opening_once, walk_reached}
use Rattle.connectivity.proofs.SetLemmas.{all_standing}
use Rattle.connectivity.proofs.shared_rounds.rounds.Goals as goal

pub new-requires-clause-opening : goal.new-requires-clause-opening
new-requires-clause-opening g c =
    let kept = c.args.frozen.now in
    subst (λ (geo : Geometry). All (λ (n : ℕ). n < inode_count geo) c.in_ok-opening.opening.items) (sym c.geometry-geometry.ensures.geometry)
    (all_standing (λ (n : ℕ). n < inode_count kept.geometry) c.in_ok-opening.opening.items
    (λ n stands. opening_low kept.geometry (frozen_view kept) n (subst (λ (xs : List ℕ). 0 < times n xs) c.in_ok-opening.ensures stands)))

pub new-requires-clause-once : goal.new-requires-clause-once
new-requires-clause-once g c = λ n.
    let kept = c.args.frozen.now in
    subst (λ (xs : List ℕ). times n xs ≤ 1) (sym c.in_ok-opening.ensures) (opening_once kept.geometry (frozen_view kept) n)

pub all_rounds-requires-clause-own : goal.all_rounds-requires-clause-own
all_rounds-requires-clause-own g c = λ κs lives.
    subst (λ (units : ℕ). All (λ (s : Seated). s ≡ new_seat c.in_ok-claims.claims.id units) c.in_ok-claims.seats.items) (sym c.in_ok-claims.ensures.units) c.in_ok-claims.ensures.fresh

pub all_rounds-requires-clause-seats : goal.all_rounds-requires-clause-seats
all_rounds-requires-clause-seats g c = λ κs lives. subst (λ (n : ℕ). IsTrue (may_work n)) (sym (c.in_ok-claims.ensures.seats.1 ∙ c.count.ensures.count)) c.args.workers.allowed

pub all_rounds-requires-clause-opening : goal.all_rounds-requires-clause-opening
all_rounds-requires-clause-opening g c = λ κs lives. c.in_ok-claims.ensures.opening ∙ c.in_ok-opening.ensures

pub returns-clause-reached : goal.returns-clause-reached
returns-clause-reached g c =
    let kept = c.args.frozen.now in
    let opening : c.in_ok-claims.claims.opening ≡ opening_round kept.geometry (frozen_view kept) = c.in_ok-claims.ensures.opening ∙ c.in_ok-opening.ensures in
    subst (λ (inodes : List ℕ). AreReached kept.geometry (frozen_view kept) inodes) (sym c.in_ok-new.ensures)
    (walk_reached kept.geometry (frozen_view kept) c.in_ok-claims.claims c.in_ok-seats.seats.items c.in_ok-marked.ensures.back c.in_ok-seats.ensures.walked
    c.in_ok-marked.marked.items c.in_ok-marked.ensures.order c.in_ok-marked.ensures.marked
    (λ t. opening ∙ opening_yes kept.geometry (frozen_view kept) t))

pub returns-in_err-claims-clause-reached : goal.returns-in_err-claims-clause-reached
returns-in_err-claims-clause-reached g c =
    let p = err_from_is_err_and c.from_residual-in_err-claims.result c.from_residual-in_err-claims.ensures.1 in rw p.1 tt

pub returns-in_err-claims-clause-error : goal.returns-in_err-claims-clause-error
returns-in_err-claims-clause-error g c =
    let p = err_from_is_err_and c.from_residual-in_err-claims.result c.from_residual-in_err-claims.ensures.1 in rw (p.1, p.2) refl

pub returns-in_err-seats-clause-reached : goal.returns-in_err-seats-clause-reached
returns-in_err-seats-clause-reached g c =
    let p = err_from_is_err_and c.from_residual-in_err-seats.result c.from_residual-in_err-seats.ensures.1 in rw p.1 tt

pub returns-in_err-seats-clause-error : goal.returns-in_err-seats-clause-error
returns-in_err-seats-clause-error g c =
    let p = err_from_is_err_and c.from_residual-in_err-seats.result c.from_residual-in_err-seats.ensures.1 in rw (p.1, p.2) c.in_err-seats.ensures.error

pub invariant_of-walk : goal.invariant_of-walk
invariant_of-walk g c = record { inodes = c.in_ok-claims.ensures.inodes ∙ ap inode_count c.geometry-geometry.ensures.geometry; few = c.requires.few }
