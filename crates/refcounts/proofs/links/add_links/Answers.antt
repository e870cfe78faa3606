use Rattle.std.proofs.Common.{◌≡◌, sym, ap, ◌∙◌}
use Rattle.frozen.specs.Kept.{frozen_view}
use Rattle.model.proofs.Adding.{adds_element}
use Rattle.refcounts.specs.Links.{links_finding}
use Rattle.refcounts.proofs.links.add_links.Goals as goal

pub returns-in_ok-push : goal.returns-in_ok-push
returns-in_ok-push c =
    let view = frozen_view c.args.frozen.now in
    let links : c.links-links.result ≡ (view.inode c.args.inode).links = c.links-links.ensures in
    adds_element (links_finding c.args.inode (view.inode c.args.inode).links c.args.entries) c.args.found.now.items c.push.new.self.items c.in-Some.finding
    (ap (λ l. links_finding c.args.inode l c.args.entries) (sym links) ∙ sym c.links_finding.ensures ∙ c.in-Some.is) c.in_ok-push.ensures.items
