use Rattle.std.proofs.Common.{[], ◌∷◌, refl, arith}
use Rattle.device.specs.declared.cache.Step.TheVariants.{Wrote}
use Rattle.file_device.specs.Calls.{all_writes}
use Rattle.file_device.proofs.CallLemmas.{length_of, on_held, on_honest, on_same, on_step, on_written, then_fault}
use Rattle.file_device.proofs.file.FileDeviceDevice.write.Goals as goal

pub take-requires : goal.take-requires
take-requires g c = omega (arith, c.requires, length_of g.S.Start.first c.args.self.now.count (all_writes c.args.self.now))

pub returns-in-Ok-clause-written : goal.returns-in-Ok-clause-written
returns-in-Ok-clause-written g c = on_written g.S.Start.first c.args.self.now c.take.new.self c.args.address c.args.from.now c.in-Ok.ensures.taken

pub returns-in-Ok-clause-held : goal.returns-in-Ok-clause-held
returns-in-Ok-clause-held g c = on_step g.S.Start.first c.args.self.now c.take.new.self g.S.Start.below (Wrote c.args.address c.args.from.now) c.in-Ok.ensures.taken

pub returns-in-Ok-clause-honest : goal.returns-in-Ok-clause-honest
returns-in-Ok-clause-honest g c = on_honest g.S.Start.first c.args.self.now c.take.new.self (Wrote c.args.address c.args.from.now ∷ []) c.in-Ok.ensures.taken

pub returns-in-Err-clause-fault : goal.returns-in-Err-clause-fault
returns-in-Err-clause-fault g c =
    on_same g.S.Start.first c.args.self.now c.fault.new.self [] refl (then_fault c.args.self.now c.take.new.self c.fault.new.self [] _ c.in-Err.ensures.refused c.fault.ensures)

pub returns-in-Err-clause-fault_held : goal.returns-in-Err-clause-fault_held
returns-in-Err-clause-fault_held g c =
    on_held g.S.Start.first c.args.self.now c.fault.new.self g.S.Start.below (then_fault c.args.self.now c.take.new.self c.fault.new.self [] _ c.in-Err.ensures.refused c.fault.ensures)

pub returns-in-Err-clause-honest : goal.returns-in-Err-clause-honest
returns-in-Err-clause-honest g c = on_honest g.S.Start.first c.args.self.now c.fault.new.self [] (then_fault c.args.self.now c.take.new.self c.fault.new.self [] _ c.in-Err.ensures.refused c.fault.ensures)
