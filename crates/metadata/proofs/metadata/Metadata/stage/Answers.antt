use Rattle.std.proofs.Common.{take, subst}
use Rattle.std.proofs.lemmas.List.{take_all}
use Rattle.metadata.specs.Staged.{IsStaged, changes}
use Rattle.metadata.proofs.Steps.{none_staged, changes_more}
use Rattle.metadata.proofs.metadata.Metadata.stage.Goals as goal

pub loop-update-init : goal.loop-update-init
loop-update-init c = none_staged c.args.self.now c.new-staged.result c.new-staged.ensures.blocks c.new-staged.ensures.bits

pub loop-update-preserved : goal.loop-update-preserved
loop-update-preserved c =
    subst (λ us. IsStaged c.args.self.now us c.stage_one.new.staged) (changes_more c.args.updates.now c.loop-update.update-index c.update-item.result c.loop-update-test.true c.update-item.is)
    (c.in_ok-stage_one.ensures (changes (take c.loop-update.update-index c.args.updates.now)) c.loop-update.invariant)

pub returns : goal.returns
returns c = subst (λ us. IsStaged c.args.self.now (changes us) c.loop-update.staged) (take_all c.loop-update.update-index c.args.updates.now c.loop-update-test.false) c.loop-update.invariant
