use Rattle.std.proofs.Common.{All, sym, ◌∙◌, subst}
use Rattle.frozen.specs.Kept.{Kept}
use Rattle.frozen.specs.Installed.{FitsIn}
use Rattle.metadata.proofs.metadata.Metadata.copy_with.Goals as goal

pub install-requires-clause-fits : goal.install-requires-clause-fits
install-requires-clause-fits c = subst (λ (k : Kept). All (FitsIn k.geometry) c.args.staged.blocks.items) (sym (c.in_ok-copy.ensures ∙ c.self.view_is)) c.requires.staged.1.fits
