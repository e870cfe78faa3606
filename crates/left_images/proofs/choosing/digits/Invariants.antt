use Rattle.std.proofs.Common.{◌≡◌, ◌-◌, ◌++◌}
use Rattle.left_images.specs.Choices.{digits}
use Rattle.left_images.proofs.choosing.digits.Given as goal

abbrev pub invariant-loop-at : goal.invariant-loop-at
invariant-loop-at l = l.picks.items ++ digits (l.fn.count - l.at) l.rest ≡ digits l.fn.count l.fn.number
