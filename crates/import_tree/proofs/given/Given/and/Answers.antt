-- One part more.
use Rattle.std.proofs.Common.{◌++◌, ap, take, ◌∙◌}
use Rattle.import_tree.specs.Parts.{bytes_in}
use Rattle.import_tree.proofs.PartLemmas.{bytes_more}
use Rattle.import_tree.proofs.given.Given.and.Goals as goal

pub returns : goal.returns
returns c =
    ap bytes_in c.and.ensures ∙ bytes_more c.self.inside.parts.items (c.args.count, c.args.room.now) ∙ ap (λ bytes. bytes ++ take c.args.count c.args.room.now.items) c.self.view_is
