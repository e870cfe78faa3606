use Rattle.std.proofs.Common.{sym, subst}
use Rattle.model.specs.Image.{IsBlock}
use Rattle.model.proofs.ImageLemmas.{is_block}
use Rattle.loaders.proofs.ahead.placed_at.Goals as goal

pub returns-clause-whole : goal.returns-clause-whole
returns-clause-whole c = subst IsBlock (sym c.in_ok-new.ensures.ok) (is_block c.args.block.now c.told-block c.fits-block)
