use Rattle.std.proofs.Common.{ℕ, refl}
use Rattle.std.proofs.lemmas.Result.{err_from_is_err_and}
use Rattle.fuse_wire.specs.declared.bodies.Body.TheVariants as bodies
use Rattle.fuse_wire.specs.declared.errors.Errno.{Errno}
use Rattle.fuse_writer.specs.declared.session.Session.{Session}
use Rattle.fuse_writer.specs.Doings.{Doing}
use Rattle.fuse_writer.specs.Requests.{closes_all, syncs, syncs_still}
use Rattle.fuse_writer.proofs.EndLemmas.{ends_with, on_either}
use Rattle.fuse_writer.proofs.DoingLemmas.{ends_done, ends_err, on_ask, on_at_err, on_at_ok, on_err, on_ok, on_then}
use Rattle.fuse_writer.proofs.answering.end.Goals as goal

-- the files are closed after all was settled, and after a refusal
abbrev closing : ℕ → Session → Doing
closing n t = closes_all t 0 n syncs syncs_still

abbrev closing_still : ℕ → Session → Errno → Doing
closing_still n t error = closes_all t 0 n (syncs_still error) (λ later. syncs_still error)

pub returns-in_err-settled-clause-does : goal.returns-in_err-settled-clause-does
returns-in_err-settled-clause-does g c =
    let n = c.inodes-inodes.result in
    let closed = c.close_all-closed.new.mounted in
    let new = c.ask_done-synced.new.self in
    let error = c.in_err-settled.field-0.0 in
    ends_with c.args.mounted.now.asking.volume.kept _ _ _ _ _ n c.inodes-inodes.ensures
    (ends_err _ _ _ _ (λ _. bodies.Empty) _ _ _ (err_from_is_err_and c.from_residual.result c.from_residual.ensures.1)
    (on_then _ _ _ _ _ _ _ _ _ (on_at_err _ _ _ _ _ _ _ _ _ c.in_err-settled.was (c.settle_all-settled.ensures.does (closing n) (closing_still n)))
    (on_then _ _ _ _ _ _ _ _ _ (on_either _ _ _ _ _ _ c.close_all-closed.result (c.close_all-closed.ensures.does (syncs_still error) (λ later. syncs_still error)))
    (on_ask closed.asking new.asking closed.session new.session _ _ _ _ c.ask_done-synced.ensures.asked.grew (λ geo. refl) c.ask_done-synced.ensures.session))))

pub returns-in_err-closed-clause-does : goal.returns-in_err-closed-clause-does
returns-in_err-closed-clause-does g c =
    let n = c.inodes-inodes.result in
    let mid = c.close_all-closed.new.mounted in
    let new = c.ask_done-synced.new.self in
    ends_with c.args.mounted.now.asking.volume.kept _ _ _ _ _ n c.inodes-inodes.ensures
    (ends_err _ _ _ _ (λ _. bodies.Empty) _ _ _ (err_from_is_err_and c.from_residual-in_err-closed.result c.from_residual-in_err-closed.ensures.1)
    (on_then _ _ _ _ _ _ _ _ _ (on_at_ok _ _ _ _ _ _ _ _ _ c.in_ok-settled.was (c.settle_all-settled.ensures.does (closing n) (closing_still n)))
    (on_then _ _ _ _ _ _ _ _ _ (on_err _ _ _ _ _ _ _ _ _ c.in_err-closed.was (c.close_all-closed.ensures.does syncs syncs_still))
    (on_ask mid.asking new.asking mid.session new.session _ _ _ _ c.ask_done-synced.ensures.asked.grew (λ geo. refl) c.ask_done-synced.ensures.session))))

pub returns-clause-does : goal.returns-clause-does
returns-clause-does g c =
    let n = c.inodes-inodes.result in
    ends_with c.args.mounted.now.asking.volume.kept _ _ _ _ _ n c.inodes-inodes.ensures
    (on_then _ _ _ _ _ _ _ _ _ (on_at_ok _ _ _ _ _ _ _ _ _ c.in_ok-settled.was (c.settle_all-settled.ensures.does (closing n) (closing_still n)))
    (on_ok _ _ _ _ _ _ _ _ _ c.in_ok-closed.was (c.close_all-closed.ensures.does syncs syncs_still)) _ _ _
    (ends_done _ _ _ _ _ _ c.ask_done-synced.result c.ask_done-synced.ensures.asked refl c.ask_done-synced.ensures.session _ refl))

pub returns-clause-synced : goal.returns-clause-synced
returns-clause-synced g c = c.ask_done-synced.ensures.synced refl
