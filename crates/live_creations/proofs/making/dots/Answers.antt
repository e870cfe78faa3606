use Rattle.std.proofs.Common.{refl}
use Rattle.live_creations.proofs.FirstUpdates.{dots_whole}
use Rattle.live_creations.proofs.making.dots.Goals as goal

pub returns : goal.returns
returns c = dots_whole c.args.number c.args.directory c.entry.result c.entry-2.result _ c.replace.new.block c.replace-2.new.block c.entry.ensures c.entry-2.ensures refl c.replace.ensures c.replace-2.ensures
