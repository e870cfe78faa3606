use Rattle.std.proofs.Common.{[]}
use Rattle.file_device.proofs.CallLemmas.{then_fault}
use Rattle.file_device.proofs.file.FileDevice.give.Goals as goal

pub returns-in-Err-clause-fault : goal.returns-in-Err-clause-fault
returns-in-Err-clause-fault g c = then_fault c.args.self.now c.give_waiting.new.self c.fault.new.self [] _ c.in-Err.ensures.refused c.fault.ensures
