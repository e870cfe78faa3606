use Rattle.std.proofs.Common.{sym, subst, []}
use Rattle.findings.specs.Findings.{AreFindings}
use Rattle.image_lines.proofs.make.make.Goals as goal

pub returns-clause-clean : goal.returns-clause-clean
returns-clause-clean g c =
    let made = c.in_ok-format.ensures in
    subst (λ view. AreFindings c.args.geometry.now view []) (sym made.view) (c.nothing_is_found_on_the_fresh_image.ensures c.args.geometry.now made.is_image.geometry)
