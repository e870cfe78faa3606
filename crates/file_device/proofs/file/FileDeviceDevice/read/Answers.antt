use Rattle.std.proofs.Common.{[], refl, ap, ◌∙◌, arith}
use Rattle.model.specs.Image.{block_at}
use Rattle.file_device.specs.Calls.{all_writes}
use Rattle.file_device.proofs.CallLemmas.{length_of, on_held, on_honest, on_same, then_fault}
use Rattle.file_device.proofs.file.FileDeviceDevice.read.Goals as goal

pub returns-in-Ok-clause-block : goal.returns-in-Ok-clause-block
returns-in-Ok-clause-block g c = λ h.
    let old = c.args.self.now in
    c.in-Ok.ensures.block h (omega (arith, c.requires, length_of g.S.Start.first old.count (all_writes old), c.get.ensures.read.count))
    ∙ ap (λ image. block_at image c.args.address) (on_same g.S.Start.first old c.get.new.self [] refl c.get.ensures.read)

pub returns-in-Ok-clause-same : goal.returns-in-Ok-clause-same
returns-in-Ok-clause-same g c = on_same g.S.Start.first c.args.self.now c.get.new.self [] refl c.get.ensures.read

pub returns-in-Ok-clause-held : goal.returns-in-Ok-clause-held
returns-in-Ok-clause-held g c = on_held g.S.Start.first c.args.self.now c.get.new.self g.S.Start.below c.get.ensures.read

pub returns-in-Ok-clause-honest : goal.returns-in-Ok-clause-honest
returns-in-Ok-clause-honest g c = on_honest g.S.Start.first c.args.self.now c.get.new.self [] c.get.ensures.read

pub returns-in-Err-clause-same : goal.returns-in-Err-clause-same
returns-in-Err-clause-same g c = on_same g.S.Start.first c.args.self.now c.fault.new.self [] refl (then_fault c.args.self.now c.get.new.self c.fault.new.self [] _ c.get.ensures.read c.fault.ensures)

pub returns-in-Err-clause-held : goal.returns-in-Err-clause-held
returns-in-Err-clause-held g c = on_held g.S.Start.first c.args.self.now c.fault.new.self g.S.Start.below (then_fault c.args.self.now c.get.new.self c.fault.new.self [] _ c.get.ensures.read c.fault.ensures)

pub returns-in-Err-clause-honest : goal.returns-in-Err-clause-honest
returns-in-Err-clause-honest g c = on_honest g.S.Start.first c.args.self.now c.fault.new.self [] (then_fault c.args.self.now c.get.new.self c.fault.new.self [] _ c.get.ensures.read c.fault.ensures)
