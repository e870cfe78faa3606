use Rattle.std.proofs.Common.{refl}
use Rattle.std.proofs.lemmas.Result.{err_from_is_err_and}
use Rattle.fuse_wire.specs.declared.bodies.Body.TheVariants as bodies
use Rattle.fuse_writer.specs.Doings.{refuses}
use Rattle.fuse_writer.specs.Requests.{syncs}
use Rattle.fuse_writer.proofs.DoingLemmas.{ends_err, on_err, on_ok}
use Rattle.fuse_writer.proofs.settling.sync_settled.Goals as goal

pub returns-in_err-settle-clause-does : goal.returns-in_err-settle-clause-does
returns-in_err-settle-clause-does g c =
    ends_err _ _ _ _ (λ _. bodies.Empty) _ _ _ (err_from_is_err_and c.from_residual.result c.from_residual.ensures.1)
    (on_err _ _ _ _ _ _ _ _ _ c.in_err-settle.was (c.settle.ensures.does (λ t. syncs) refuses))

pub returns-clause-does : goal.returns-clause-does
returns-clause-does g c =
    on_ok _ _ _ _ _ _ _ _ _ c.in_ok-settle.was (c.settle.ensures.does (λ t. syncs) refuses) _ _ _ c.sync.ensures.does
