use Rattle.std.proofs.Common.{◌∷◌, [], if◌then◌else◌, ap, ◌∙◌, arith, get_or, length-take-le, take}
use Rattle.device.specs.declared.cache.Step.TheVariants.{Wrote}
use Rattle.device.specs.Media.{chosen, writes_in}
use Rattle.device.specs.Writes.{image_after}
use Rattle.device.proofs.MediaLemmas.{one_within, picked_more}
use Rattle.device.proofs.cache.make_picked.Goals as goal

pub make-requires : goal.make-requires
make-requires c =
    one_within c.args.blocks.now.items c.loop-at.blocks.items (writes_in (chosen (take c.loop-at.at c.args.steps.now) c.args.picks.now)) c.args.steps.now c.loop-at.at (Wrote 0 []) c.loop-at.invariant c.loop-at-test.true c.requires

pub loop-at-preserved : goal.loop-at-preserved
loop-at-preserved c =
    let ss = c.args.steps.now in
    let at = c.loop-at.at in
    picked_more c.args.blocks.now.items c.loop-at.blocks.items c.make.new.blocks.items ss c.args.picks.now at (Wrote 0 []) c.loop-at-test.true (length-take-le at ss (omega (arith, c.loop-at-test.true))) c.loop-at.invariant
    (c.make.ensures ∙ ap (λ b. image_after c.loop-at.blocks.items (writes_in (if b then get_or ss at (Wrote 0 []) ∷ [] else []))) c.is_picked.ensures)
