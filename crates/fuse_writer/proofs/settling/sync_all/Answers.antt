use Rattle.std.proofs.Common.{refl}
use Rattle.std.proofs.lemmas.Result.{err_from_is_err_and}
use Rattle.fuse_wire.specs.declared.bodies.Body.TheVariants as bodies
use Rattle.fuse_writer.specs.Doings.{refuses}
use Rattle.fuse_writer.specs.Requests.{syncs}
use Rattle.fuse_writer.proofs.DoingLemmas.{ends_err, on_at_err, on_at_ok}
use Rattle.fuse_writer.proofs.EndLemmas.{syncs_with}
use Rattle.fuse_writer.proofs.settling.sync_all.Goals as goal

pub returns-in_err-settle_all-clause-does : goal.returns-in_err-settle_all-clause-does
returns-in_err-settle_all-clause-does g c =
    syncs_with c.args.mounted.now.asking.volume.kept _ _ _ _ _ c.inodes-inodes.result c.inodes-inodes.ensures
    (ends_err _ _ _ _ (λ _. bodies.Empty) _ _ _ (err_from_is_err_and c.from_residual.result c.from_residual.ensures.1)
    (on_at_err _ _ _ _ _ _ _ _ _ c.in_err-settle_all.was (c.settle_all.ensures.does (λ t. syncs) (λ t. refuses))))

pub returns-clause-does : goal.returns-clause-does
returns-clause-does g c =
    syncs_with c.args.mounted.now.asking.volume.kept _ _ _ _ _ c.inodes-inodes.result c.inodes-inodes.ensures
    (on_at_ok _ _ _ _ _ _ _ _ _ c.in_ok-settle_all.was (c.settle_all.ensures.does (λ t. syncs) (λ t. refuses)) _ _ _ c.sync.ensures.does)
