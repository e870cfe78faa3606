use Rattle.std.proofs.Common.{All, sym, subst}
use Rattle.frozen.specs.Kept.{Kept}
use Rattle.frozen.specs.Installed.{FitsIn}
use Rattle.frozen.proofs.frozen.Frozen.install.Goals as goal

pub install-requires : goal.install-requires
install-requires c = subst (λ (k : Kept). All (FitsIn k.geometry) c.args.blocks.items) (sym c.self.view_is) c.requires.fits
