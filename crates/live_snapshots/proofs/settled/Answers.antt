-- In a volume, what is left out are the open inodes without links, and the bits of what is held.
use Rattle.std.proofs.Common.{◌∙◌, subst}
use Rattle.frozen.specs.Kept.{KeepsMetadata}
use Rattle.live_snapshots.proofs.Settling.{settles}
use Rattle.live_snapshots.proofs.settled.Goals as goal

pub returns-clause-settled : goal.returns-clause-settled
returns-clause-settled c =
    settles c.args.metadata.now c.args.holdings.now c.requires.volume c.in_ok-left.left c.unmark_held.new.frozen c.in_ok-left.ensures.shows c.in_ok-unmark_held.ensures

pub returns-clause-geometry : goal.returns-clause-geometry
returns-clause-geometry c = c.in_ok-unmark_held.ensures.geometry ∙ c.in_ok-left.ensures.geometry

pub returns-clause-metadata : goal.returns-clause-metadata
returns-clause-metadata c = c.in_ok-unmark_held.ensures.metadata c.in_ok-left.ensures.metadata
