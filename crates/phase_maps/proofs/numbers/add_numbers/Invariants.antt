use Rattle.std.proofs.Common.{◌&&◌, ltb}
use Rattle.frozen.specs.Kept.{frozen_view}
use Rattle.model.specs.Growth.{Adds}
use Rattle.model.specs.Units.{only, stands_in}
use Rattle.model.proofs.GroupNumbers.{AreNumbersFrom}
use Rattle.phase_maps.specs.NumberFindings.{IsFoundOfNumbers}
use Rattle.phase_maps.proofs.numbers.add_numbers.Given as goal

abbrev pub invariant-loop-number : goal.invariant-loop-number
invariant-loop-number l =
    Adds (IsFoundOfNumbers l.frozen.geometry (frozen_view l.frozen) (λ i. stands_in l.frozen.geometry (only l.group) i && ltb i l.number-iterator.start)) l.fn.found.items l.found.items
    × AreNumbersFrom l.frozen.geometry l.group l.number-iterator.start l.number-iterator.end
