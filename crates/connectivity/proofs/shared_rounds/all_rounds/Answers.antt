-- The walk begins at the root, each round keeps what holds of it, and it ends where none is left.
use Rattle.std.proofs.Common.{◌≡◌, ℕ, ◌<◌, [], All, IsTrue, length, refl, sym, ap, ◌∙◌, subst, arith, inl, inr}
use Rattle.std.proofs.lemmas.Bool.{eqb-false, eqb-true}
use Rattle.std.proofs.lemmas.List.{nil_from_length}
use Rattle.std.proofs.lemmas.Result.{err_from_is_err_and}
use Rattle.std.proofs.lemmas.List.Elements.{All-weaker}
use Rattle.claims.specs.Seats.{Seated, new_seat}
use Rattle.frozen.specs.Kept.{frozen_view}
use Rattle.model.specs.Layout.{inode_count}
use Rattle.model.specs.Uses.{is_directory_at}
use Rattle.worker_counts.specs.Workers.{may_work}
use Rattle.connectivity.specs.Asked.{HaveAsked}
use Rattle.connectivity.proofs.SetLemmas.{all_contained}
use Rattle.connectivity.proofs.SharedLemmas.{walk_start, walk_round, walk_ended}
use Rattle.connectivity.proofs.shared_rounds.all_rounds.Goals as goal

pub loop-number-init : goal.loop-number-init
loop-number-init g c =
    let kept = c.args.walk.now.frozen.now in
    record {
      own = All-weaker (λ (s : Seated). s ≡ new_seat c.args.walk.now.claims.now.id c.args.walk.now.claims.now.units) (λ (s : Seated). s.of ≡ c.args.walk.now.claims.now.id) (λ s new. ap (λ (t : Seated). t.of) new) c.args.seats.items c.requires.own;
      count = refl;
      walk = walk_start kept.geometry (frozen_view kept) (new_seat c.args.walk.now.claims.now.id c.args.walk.now.claims.now.units) c.args.walk.now.claims.now.opening c.in_ok-round.round.items c.args.seats.items refl c.requires.own c.requires.opening c.in_ok-round.ensures;
    }

pub one_round-requires-clause-seats : goal.one_round-requires-clause-seats
one_round-requires-clause-seats g c = λ κs lives. subst (λ (n : ℕ). IsTrue (may_work n)) (sym c.loop-number.invariant.count) c.requires.seats

pub one_round-requires-clause-directories : goal.one_round-requires-clause-directories
one_round-requires-clause-directories g c = λ κs lives.
    let kept = c.args.walk.now.frozen.now in
    subst (All (λ (d : ℕ). IsTrue (is_directory_at kept.geometry (frozen_view kept) d))) (sym c.as_slice-directories.ensures.value)
    (all_contained (λ (d : ℕ). IsTrue (is_directory_at kept.geometry (frozen_view kept) d)) c.loop-number.round.items (λ d there. (c.loop-number.invariant.walk.to_follow d there).0))

pub loop-number-preserved : goal.loop-number-preserved
loop-number-preserved g c =
    let kept = c.args.walk.now.frozen.now in
    let inv = c.loop-number.invariant in
    let asked = subst (λ xs. HaveAsked kept.geometry (frozen_view kept) xs c.loop-number.seats.items c.in_ok-back.back.items c.in_ok-back.found.items) c.as_slice-directories.ensures.value c.in_ok-back.ensures.asked in
    let apart : c.loop-number.round.len ≡ 0 → ⊥ = eqb-false c.loop-number.round.len 0 (sym c.is_empty.ensures ∙ c.if-is_empty.false) in
    let some : 0 < length c.loop-number.round.items = omega (arith, c.loop-number.round.ok.0, apart) in
    record {
      own = c.in_ok-back.ensures.own;
      count = c.in_ok-back.back.ok.0 ∙ asked.seats ∙ sym c.loop-number.seats.ok.0 ∙ inv.count;
      walk = walk_round kept.geometry (frozen_view kept) c.args.walk.now.claims.now.opening c.loop-number.seats.items c.loop-number.round.items c.loop-number.number inv.walk c.in_ok-back.back.items c.in_ok-back.found.items asked some;
    }

pub returns-then-is_empty-clause-walked : goal.returns-then-is_empty-clause-walked
returns-then-is_empty-clause-walked g c =
    let kept = c.args.walk.now.frozen.now in
    let none : c.loop-number.round.items ≡ [] = nil_from_length c.loop-number.round.items (sym c.loop-number.round.ok.0 ∙ eqb-true c.loop-number.round.len 0 (sym c.is_empty.ensures ∙ c.if-is_empty.true)) in
    walk_ended kept.geometry (frozen_view kept) c.args.walk.now.claims.now.opening c.loop-number.seats.items c.loop-number.round.items c.loop-number.number c.loop-number.invariant.walk (inl none)

pub returns-clause-walked : goal.returns-clause-walked
returns-clause-walked g c =
    let kept = c.args.walk.now.frozen.now in
    walk_ended kept.geometry (frozen_view kept) c.args.walk.now.claims.now.opening c.loop-number.seats.items c.loop-number.round.items c.loop-number.number c.loop-number.invariant.walk
    (inr (omega (arith, c.loop-number-test.false, c.inodes-inodes.ensures.count, ap inode_count c.geometry.ensures.geometry)))

pub returns-in_err-back-clause-own : goal.returns-in_err-back-clause-own
returns-in_err-back-clause-own g c =
    let p = err_from_is_err_and c.from_residual-in_err-back.result c.from_residual-in_err-back.ensures.1 in rw p.1 tt

pub returns-in_err-back-clause-count : goal.returns-in_err-back-clause-count
returns-in_err-back-clause-count g c =
    let p = err_from_is_err_and c.from_residual-in_err-back.result c.from_residual-in_err-back.ensures.1 in rw p.1 tt

pub returns-in_err-back-clause-walked : goal.returns-in_err-back-clause-walked
returns-in_err-back-clause-walked g c =
    let p = err_from_is_err_and c.from_residual-in_err-back.result c.from_residual-in_err-back.ensures.1 in rw p.1 tt

pub returns-in_err-back-clause-error : goal.returns-in_err-back-clause-error
returns-in_err-back-clause-error g c =
    let p = err_from_is_err_and c.from_residual-in_err-back.result c.from_residual-in_err-back.ensures.1 in rw (p.1, p.2) c.in_err-back.ensures.error
