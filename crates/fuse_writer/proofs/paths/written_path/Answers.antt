use Rattle.std.proofs.Common.{inr, refl}
use Rattle.fuse_nodes.specs.Table.{path_of}
use Rattle.fuse_writer.proofs.PathLemmas.{no_path, whole_path}
use Rattle.fuse_writer.proofs.paths.written_path.Goals as goal

pub returns-in-Ok-true-clause-path : goal.returns-in-Ok-true-clause-path
returns-in-Ok-true-clause-path c =
    whole_path (path_of 2048 c.args.nodes.now c.args.number) _ _ c.in-Ok-true.field-0 c.new-path.ensures.items c.in-Ok-true.ensures.found c.in-Ok-true.field-0-test
    c.in-Ok-true.ensures.path

pub returns-in-Ok-false-clause-none : goal.returns-in-Ok-false-clause-none
returns-in-Ok-false-clause-none c =
    inr (refl, no_path (path_of 2048 c.args.nodes.now c.args.number) c.in-Ok-false.field-0 c.in-Ok-false.ensures.found c.in-Ok-false.field-0-test)
