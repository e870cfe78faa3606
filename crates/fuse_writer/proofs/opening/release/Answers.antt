use Rattle.std.proofs.Common.{refl, arith}
use Rattle.fuse_writer.proofs.DoingLemmas.{does_same, does_say, ends_so}
use Rattle.fuse_writer.proofs.RequestLemmas.{releases_file, releases_none}
use Rattle.fuse_writer.specs.Doings.{refuses, says_done}
use Rattle.fuse_writer.proofs.opening.release.Goals as goal

pub returns-then-handle-from-clause-does : goal.returns-then-handle-from-clause-does
returns-then-handle-from-clause-does g c =
    does_same _ _ _ _ _ _ _ (releases_none c.args.mounted.now.session c.args.handle.0 (omega (arith, c.if-handle-from.true))) (does_say _ _ _ _ _ _ refl refl refl)

pub returns-clause-does : goal.returns-clause-does
returns-clause-does g c =
    does_same _ _ _ _ _ _ _ (releases_file c.args.mounted.now.session c.args.handle.0 (omega (arith, c.if-handle-from.false)))
    (ends_so _ _ _ _ c.close.result _ (c.close.ensures.does says_done refuses))
