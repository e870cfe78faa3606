use Rattle.std.proofs.Common.{◌≡◌, ◌*◌}
use Rattle.frozen.specs.Kept.{frozen_view}
use Rattle.model.specs.Named.{named_below}
use Rattle.directories.proofs.reading.numbers_named.Given as goal

abbrev pub invariant-loop-position : goal.invariant-loop-position
invariant-loop-position l = l.numbers.items ≡ named_below l.frozen.geometry (frozen_view l.frozen) l.first l.directory (16 * l.position)
