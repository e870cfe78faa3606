use Rattle.std.proofs.Common.{refl, ap, ◌+◌, ◌*◌, ◌∙◌}
use Rattle.layout.specs.Fresh.{put_u32}
use Rattle.upgrading.specs.Steps.{cleared_below}
use Rattle.upgrading.proofs.Cleared.{cleared_next}
use Rattle.upgrading.proofs.clearing.without_pointers.Goals as goal

pub loop-place-init : goal.loop-place-init
unfolding cleared_below
loop-place-init c = refl

pub loop-place-preserved : goal.loop-place-preserved
loop-place-preserved c =
    c.clear_pointer.ensures ∙ ap (put_u32 (128 * c.loop-place.place + 60) 0) c.loop-place.invariant ∙ cleared_next c.loop-place.place c.args.records.now
