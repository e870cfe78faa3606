use Rattle.std.proofs.Common.{◌≡◌, length, take}
use Rattle.device.specs.Media.{writes_in}
use Rattle.device.specs.Writes.{image_after}
use Rattle.device.proofs.cache.make_all.Given as goal

abbrev pub invariant-loop-step : goal.invariant-loop-step
invariant-loop-step l = l.blocks.items ≡ image_after l.fn.blocks.items (writes_in (take l.step-index l.fn.steps))
