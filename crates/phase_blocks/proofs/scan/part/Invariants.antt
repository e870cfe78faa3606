use Rattle.frozen.specs.Kept.{frozen_view}
use Rattle.model.proofs.GroupNumbers.{AreNumbersFrom}
use Rattle.phase_blocks.proofs.Scanning.{TellsBelow}
use Rattle.phase_blocks.proofs.scan.part.Given as goal

abbrev pub invariant-loop-number : goal.invariant-loop-number
invariant-loop-number l =
    TellsBelow l.frozen.geometry (frozen_view l.frozen) l.unit l.part l.number-iterator.start
    × AreNumbersFrom l.frozen.geometry l.unit l.number-iterator.start l.number-iterator.end
