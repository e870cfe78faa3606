use Rattle.std.proofs.Common.{◌≡◌, None, arith}
use Rattle.std.proofs.lemmas.Result.{err_from_is_err_and}
use Rattle.fuse_nodes.specs.Table.{path_of}
use Rattle.fuse_writer.specs.Requests.{at_path}
use Rattle.fuse_writer.proofs.PathLemmas.{handed_on}
use Rattle.fuse_writer.proofs.RequestLemmas.{path_known, path_long, path_no_memory, path_none}
use Rattle.fuse_writer.proofs.paths.path_of.Goals as goal

pub returns-in_err-path : goal.returns-in_err-path
returns-in_err-path g c =
    let s = c.args.mounted.now.session in
    handed_on _ (at_path s c.args.number) (path_of 2048 s.nodes c.args.number ≡ None)
    (path_no_memory s c.args.number) (path_none s c.args.number) _ c.in_err-path.ensures.none
    c.from_residual.result (err_from_is_err_and c.from_residual.result c.from_residual.ensures.1)

pub returns-then-len-gt-PATH_BYTES : goal.returns-then-len-gt-PATH_BYTES
returns-then-len-gt-PATH_BYTES g c =
    path_long c.args.mounted.now.session c.args.number c.in_ok-path.path.items c.in_ok-path.ensures.path (omega (arith, c.if-len-gt-PATH_BYTES.true))

pub returns : goal.returns
returns g c = path_known c.args.mounted.now.session c.args.number c.in_ok-path.path.items c.in_ok-path.ensures.path (omega (arith, c.if-len-gt-PATH_BYTES.false))
