use Rattle.std.proofs.Common.{refl}
use Rattle.fuse_writer.proofs.DoingLemmas.{does_same}
use Rattle.fuse_writer.proofs.EndLemmas.{syncs_data, syncs_found}
use Rattle.fuse_writer.proofs.settling.sync_node.Goals as goal

pub returns-then-data_only-clause-does : goal.returns-then-data_only-clause-does
returns-then-data_only-clause-does g c =
    does_same _ _ _ _ _ _ _ (syncs_data c.args.mounted.now.session c.args.node c.args.data_only c.if-data_only.true) c.sync.ensures.does

pub returns-in-Some-clause-does : goal.returns-in-Some-clause-does
returns-in-Some-clause-does g c =
    does_same _ _ _ _ _ _ _ (syncs_found c.args.mounted.now.session c.args.node c.args.data_only _ c.if-data_only.false c.in-Some.ensures) c.sync_settled.ensures.does

pub returns-in-None-clause-does : goal.returns-in-None-clause-does
returns-in-None-clause-does g c =
    does_same _ _ _ _ _ _ _ (syncs_found c.args.mounted.now.session c.args.node c.args.data_only _ c.if-data_only.false c.in-None.ensures) c.sync-in-None.ensures.does
