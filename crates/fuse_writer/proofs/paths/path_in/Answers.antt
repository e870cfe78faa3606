use Rattle.std.proofs.Common.{◌≡◌, None, arith}
use Rattle.std.proofs.lemmas.Result.{err_from_is_err_and}
use Rattle.fuse_nodes.specs.Table.{path_of}
use Rattle.fuse_writer.specs.Requests.{path_in}
use Rattle.fuse_writer.proofs.PathLemmas.{handed_on}
use Rattle.fuse_writer.proofs.RequestLemmas.{in_known, in_long, in_long_name, in_no_memory, in_none}
use Rattle.fuse_writer.proofs.paths.path_in.Goals as goal

pub returns-then-name-gt-NAME_BYTES : goal.returns-then-name-gt-NAME_BYTES
returns-then-name-gt-NAME_BYTES g c =
    in_long_name c.args.mounted.now.session c.args.directory c.args.name.now (omega (arith, c.if-name-gt-NAME_BYTES.true))

pub returns-in_err-path : goal.returns-in_err-path
returns-in_err-path g c =
    let s = c.args.mounted.now.session in
    handed_on _ (path_in s c.args.directory c.args.name.now) (path_of 2048 s.nodes c.args.directory ≡ None)
    (in_no_memory s c.args.directory c.args.name.now (omega (arith, c.if-name-gt-NAME_BYTES.false)))
    (in_none s c.args.directory c.args.name.now (omega (arith, c.if-name-gt-NAME_BYTES.false))) _ c.in_err-path.ensures.none
    c.from_residual.result (err_from_is_err_and c.from_residual.result c.from_residual.ensures.1)

pub returns-in_default : goal.returns-in_default
returns-in_default g c = in_no_memory c.args.mounted.now.session c.args.directory c.args.name.now (omega (arith, c.if-name-gt-NAME_BYTES.false))

pub returns-then-len-gt-PATH_BYTES : goal.returns-then-len-gt-PATH_BYTES
returns-then-len-gt-PATH_BYTES g c =
    in_long c.args.mounted.now.session c.args.directory c.args.name.now c.in_ok-path.path.items c.add_name.new.path.items
    (omega (arith, c.if-name-gt-NAME_BYTES.false)) c.in_ok-path.ensures.path c.in-Ok.ensures (omega (arith, c.if-len-gt-PATH_BYTES.true))

pub returns : goal.returns
returns g c =
    in_known c.args.mounted.now.session c.args.directory c.args.name.now c.in_ok-path.path.items c.add_name.new.path.items
    (omega (arith, c.if-name-gt-NAME_BYTES.false)) c.in_ok-path.ensures.path c.in-Ok.ensures (omega (arith, c.if-len-gt-PATH_BYTES.false))
