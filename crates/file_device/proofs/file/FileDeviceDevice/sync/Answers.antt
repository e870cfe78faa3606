use Rattle.std.proofs.Common.{[], ◌∷◌, refl}
use Rattle.device.specs.declared.cache.Step.TheVariants.{Synced}
use Rattle.file_device.proofs.CallLemmas.{on_held, on_honest, on_same, on_step, then_fault}
use Rattle.file_device.proofs.file.FileDeviceDevice.sync.Goals as goal

pub returns-in-Ok-clause-same : goal.returns-in-Ok-clause-same
returns-in-Ok-clause-same g c = on_same g.S.Start.first c.args.self.now c.settle.new.self (Synced ∷ []) refl c.in-Ok.ensures.settled

pub returns-in-Ok-clause-held : goal.returns-in-Ok-clause-held
returns-in-Ok-clause-held g c = on_step g.S.Start.first c.args.self.now c.settle.new.self g.S.Start.below Synced c.in-Ok.ensures.settled

pub returns-in-Ok-clause-honest : goal.returns-in-Ok-clause-honest
returns-in-Ok-clause-honest g c = on_honest g.S.Start.first c.args.self.now c.settle.new.self (Synced ∷ []) c.in-Ok.ensures.settled

pub returns-in-Err-clause-same : goal.returns-in-Err-clause-same
returns-in-Err-clause-same g c = on_same g.S.Start.first c.args.self.now c.fault.new.self [] refl (then_fault c.args.self.now c.settle.new.self c.fault.new.self [] _ c.in-Err.ensures.refused c.fault.ensures)

pub returns-in-Err-clause-fault_held : goal.returns-in-Err-clause-fault_held
returns-in-Err-clause-fault_held g c =
    on_held g.S.Start.first c.args.self.now c.fault.new.self g.S.Start.below (then_fault c.args.self.now c.settle.new.self c.fault.new.self [] _ c.in-Err.ensures.refused c.fault.ensures)

pub returns-in-Err-clause-honest : goal.returns-in-Err-clause-honest
returns-in-Err-clause-honest g c = on_honest g.S.Start.first c.args.self.now c.fault.new.self [] (then_fault c.args.self.now c.settle.new.self c.fault.new.self [] _ c.in-Err.ensures.refused c.fault.ensures)
