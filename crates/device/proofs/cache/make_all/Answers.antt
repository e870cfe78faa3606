use Rattle.std.proofs.Common.{[], ap, ◌∙◌, take}
use Rattle.std.proofs.lemmas.List.{take_all}
use Rattle.device.specs.declared.cache.Step.TheVariants.{Wrote}
use Rattle.device.specs.Media.{writes_in}
use Rattle.device.specs.Writes.{image_after}
use Rattle.device.proofs.MediaLemmas.{made_more, one_within}
use Rattle.device.proofs.cache.make_all.Goals as goal

pub make-requires : goal.make-requires
make-requires c =
    one_within c.args.blocks.now.items c.loop-step.blocks.items (writes_in (take c.loop-step.step-index c.args.steps.now)) c.args.steps.now c.loop-step.step-index (Wrote 0 []) c.loop-step.invariant c.loop-step-test.true c.requires

pub loop-step-preserved : goal.loop-step-preserved
loop-step-preserved c =
    made_more c.args.blocks.now.items c.loop-step.blocks.items c.make.new.blocks.items c.args.steps.now c.loop-step.step-index (Wrote 0 []) c.loop-step-test.true c.loop-step.invariant c.make.ensures

pub returns : goal.returns
returns c = c.loop-step.invariant ∙ ap (λ ss. image_after c.args.blocks.now.items (writes_in ss)) (take_all c.loop-step.step-index c.args.steps.now c.loop-step-test.false)
