use Rattle.std.proofs.Common.{◌≡◌, length, take}
use Rattle.device.specs.Media.{chosen, writes_in}
use Rattle.device.specs.Writes.{image_after}
use Rattle.device.proofs.cache.make_picked.Given as goal

abbrev pub invariant-loop-at : goal.invariant-loop-at
invariant-loop-at l = l.blocks.items ≡ image_after l.fn.blocks.items (writes_in (chosen (take l.at l.fn.steps) l.fn.picks))
