use Rattle.std.proofs.Common.{◌≡◌, true, false, ap, sym, ◌∙◌}
use Rattle.std.proofs.lemmas.Result.{err_from_is_err_and}
use Rattle.frozen.specs.Kept.{Kept}
use Rattle.fuse_writer.specs.Requests.{is_directory}
use Rattle.fuse_writer.proofs.RequestLemmas.{directory_known, directory_none, directory_refused}
use Rattle.fuse_writer.proofs.mounted.Mounted.directory.Goals as goal

pub returns-in_err-number : goal.returns-in_err-number
returns-in_err-number g c =
    let p = err_from_is_err_and c.from_residual.result c.from_residual.ensures.1 in
    rw (p.1, p.2) (directory_refused c.args.self.now.session c.args.node c.args.self.now.asking.volume.kept _ c.in_err-number.ensures)

pub returns-then-not-is_directory_at : goal.returns-then-not-is_directory_at
returns-then-not-is_directory_at g c =
    let kept = c.args.self.now.asking.volume.kept in
    let d = c.in_ok-number.number in
    let is : is_directory kept d ≡ false = ap (λ (k : Kept). is_directory k d) (sym c.metadata.ensures) ∙ sym c.is_directory_at.ensures ∙ c.if-not-is_directory_at.true in
    directory_none c.args.self.now.session c.args.node kept d c.in_ok-number.ensures is

pub returns : goal.returns
returns g c =
    let kept = c.args.self.now.asking.volume.kept in
    let d = c.in_ok-number.number in
    let is : is_directory kept d ≡ true = ap (λ (k : Kept). is_directory k d) (sym c.metadata.ensures) ∙ sym c.is_directory_at.ensures ∙ c.if-not-is_directory_at.false in
    directory_known c.args.self.now.session c.args.node kept d c.in_ok-number.ensures is
