use Rattle.std.proofs.Common.{◌≡◌, ◌*◌}
use Rattle.frozen.specs.Kept.{frozen_view}
use Rattle.model.specs.Named.{named_below}
use Rattle.directories.proofs.reading.add_block.Given as goal

abbrev pub invariant-loop-slot : goal.invariant-loop-slot
invariant-loop-slot l =
    l.fn.numbers.items ≡ named_below l.frozen.geometry (frozen_view l.frozen) l.first l.directory (16 * l.position)
    → l.numbers.items ≡ named_below l.frozen.geometry (frozen_view l.frozen) l.first l.directory l.slot
